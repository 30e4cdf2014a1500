-- Steps that may fail, one after another.
use Rattle.std.specs.Prelude.{Bool, Result, Ok, Err, if◌then◌else◌}

-- the second step, where the first gave something
infixl 10 ◌>>=◌
abbrev pub ◌>>=◌ : {A B E : Type 0} → Result A E → (A → Result B E) → Result B E
(Ok x) >>= f = f x
(Err failure) >>= f = Err failure

-- the value, where the test holds, else the failure
abbrev pub given : {A E : Type 0} → Bool → E → A → Result A E
given test failure value = if test then Ok value else Err failure
