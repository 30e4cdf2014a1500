-- Steps that may give nothing, one after another.
use Rattle.std.specs.Prelude.{◌≡◌, Bool, true, false, refl, Option, Some, None, if◌then◌else◌}

-- the second step, where the first gave something
infixl 10 ◌>>=◌
abbrev pub ◌>>=◌ : {A B : Type 0} → Option A → (A → Option B) → Option B
None >>= f = None
(Some x) >>= f = f x

-- the step, where the test before it holds
infixl 10 ◌>>◌
abbrev pub ◌>>◌ : {B : Type 0} → Bool → Option B → Option B
test >> step = if test then step else None

-- a test, as a step
abbrev pub check : Bool → Bool
check test = test

-- steps that gave something: the first did, and the second did at what the first gave
pub bind_some : {A B : Type 0} (o : Option A) (f : A → Option B) (y : B) → (o >>= f) ≡ Some y → (x : A) × (o ≡ Some x) × (f x ≡ Some y)
bind_some (Some x) f y e = (x, refl, e)
bind_some None f y e = absurd cc

-- a step that gave something: its test held
pub test_some : {B : Type 0} (test : Bool) (step : Option B) (y : B) → (test >> step) ≡ Some y → (test ≡ true) × (step ≡ Some y)
test_some true step y e = (refl, e)
test_some false step y e = absurd cc
