-- Work that gave something: so did each step of it.
use Rattle.std.proofs.Common.{◌≡◌, Result, Ok, Err, refl, sym, ap, subst}
use Rattle.build_plan.specs.Doing.{Why, Ended, Got, Stopped, Doing, go_on, unless}

abbrev pub given_or : {S A : Type 0} → A → Ended S A → A
given_or other (Got x s) = x
given_or other (Stopped why s) = other

abbrev pub state_of : {S A : Type 0} → Ended S A → S
state_of (Got x s) = s
state_of (Stopped why s) = s

abbrev IsGot : {S A : Type 0} → Ended S A → Type 0
IsGot (Got x s) = Unit {0}
IsGot (Stopped why s) = ⊥

pub stopped-got : {S A : Type 0} (why : Why) (s : S) (x : A) (t : S) → Stopped why s ≡ Got x t → ⊥
stopped-got why s x t is = subst IsGot (sym is) tt

pub got-value : {S A : Type 0} (x y : A) (s t : S) → ◌≡◌ {A = Ended S A} (Got x s) (Got y t) → x ≡ y
got-value x y s t is = ap (given_or x) is

pub got-state : {S A : Type 0} (x y : A) (s t : S) → ◌≡◌ {A = Ended S A} (Got x s) (Got y t) → s ≡ t
got-state x y s t is = ap state_of is

-- the first step gave something, and so did what follows it
pub record Follows {S A B : Type 0} (e : Ended S A) (f : A → Doing S B) (y : B) (t : S) : Type 0 where
  pub x : A
  pub middle : S
  pub first : e ≡ Got x middle
  pub last : f x middle ≡ Got y t

pub follows : {S A B : Type 0} (e : Ended S A) (f : A → Doing S B) (y : B) (t : S) → go_on e f ≡ Got y t → Follows e f y t
follows (Got x s) f y t is = record { x = x; middle = s; first = refl; last = is }
follows (Stopped why s) f y t is = absurd (stopped-got why s y t is)

abbrev ok_or : {A E : Type 0} → A → Result A E → A
ok_or other (Ok x) = x
ok_or other (Err error) = other

abbrev IsOkay : {A E : Type 0} → Result A E → Type 0
IsOkay (Ok x) = Unit {0}
IsOkay (Err error) = ⊥

pub err-ok : {A E : Type 0} (error : E) (x : A) → ◌≡◌ {A = Result A E} (Err error) (Ok x) → ⊥
err-ok {A} {E} error x is = subst (IsOkay {A = A} {E = E}) (sym is) tt

pub same-ok : {A E : Type 0} (x y : A) → ◌≡◌ {A = Result A E} (Ok x) (Ok y) → x ≡ y
same-ok x y is = ap (ok_or x) is

-- what was found
pub unless-got : {S A : Type 0} (found : Result A Why) (s : S) (x : A) (t : S) → unless found s ≡ Got x t → (found ≡ Ok x) × (s ≡ t)
unless-got (Ok y) s x t is = (ap (λ y. Ok y) (got-value y x s t is), got-state y x s t is)
unless-got (Err why) s x t is = absurd (stopped-got why s x t is)

-- what holds of what was given and of the state
pub got-both : {S A : Type 0} (P : A → S → Type 0) (x y : A) (s t : S) → ◌≡◌ {A = Ended S A} (Got x s) (Got y t) → P x s → P y t
got-both {S} {A} P x y s t is h = subst Of is h
  where
    Of : Ended S A → Type 0
    Of (Got x s) = P x s
    Of (Stopped why s) = ⊥
