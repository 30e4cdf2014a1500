-- What holds of a step's value, where it gives one.
use Rattle.std.proofs.Common.{◌≡◌, Bool, true, false, List, [], ◌∷◌, ◌++◌, Option, Some, None, if◌then◌else◌, refl, subst}
use Rattle.std.specs.List.{AllByRecursion}
use Rattle.std.specs.Option.{option_or}
use Rattle.text_lines.specs.Maybe.{◌>>=◌}

-- P holds of the value
abbrev pub OnSome : {A : Type 0} → (A → Type 0) → Option A → Type 0
OnSome P None = Unit {0}
OnSome P (Some x) = P x

pub on_if : {A : Type 0} (P : A → Type 0) (test : Bool) (o : Option A) → (test ≡ true → OnSome P o) → OnSome P (if test then o else None)
on_if P true o f = f refl
on_if P false o f = tt

pub on_either : {A : Type 0} (P : A → Type 0) (test : Bool) (o p : Option A) → OnSome P o → OnSome P p → OnSome P (if test then o else p)
on_either P true o p f g = f
on_either P false o p f g = g

pub on_or : {A : Type 0} (P : A → Type 0) (o p : Option A) → OnSome P o → OnSome P p → OnSome P (option_or o p)
on_or P None p f g = g
on_or P (Some x) p f g = f

pub on_step : {A B : Type 0} (P : B → Type 0) (o : Option A) (f : A → Option B) → ((x : A) → o ≡ Some x → OnSome P (f x)) → OnSome P (o >>= f)
on_step P None f g = tt
on_step P (Some x) f g = g x refl

pub at_some : {A : Type 0} (P : A → Type 0) (o : Option A) (x : A) → OnSome P o → o ≡ Some x → P x
at_some {A} P o x holds e = let Q : Option A → Type 0 = OnSome P in subst Q e holds

pub all_more : {A : Type 0} (P : A → Type 0) (xs : List A) (x : A) → AllByRecursion P xs → P x → AllByRecursion P (xs ++ x ∷ [])
all_more P [] x all more = (more, tt)
all_more P (y ∷ xs) x all more = (all.0, all_more P xs x all.1 more)
