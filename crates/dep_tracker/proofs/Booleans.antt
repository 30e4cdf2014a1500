-- Tests that hold or don't.
use Rattle.std.proofs.Common.{◌≡◌, ◌⊎◌, Bool, true, false, ◌||◌, ◌&&◌, not, if◌then◌else◌, refl, inl, inr, arith}

pub is_or_not : (b : Bool) → (b ≡ true) ⊎ (b ≡ false)
is_or_not true = inl refl
is_or_not false = inr refl

pub contradict : (b : Bool) → b ≡ true → b ≡ false → ⊥
contradict true h k = grind (arith, k)
contradict false h k = grind (arith, h)

pub or_true : (a b : Bool) → (a || b) ≡ true → (a ≡ true) ⊎ (b ≡ true)
or_true true b e = inl refl
or_true false b e = inr e

pub true_or : (a b : Bool) → a ≡ true → (a || b) ≡ true
true_or true b e = refl
true_or false b e = grind arith

pub or_right : (a b : Bool) → b ≡ true → (a || b) ≡ true
or_right true b e = refl
or_right false b e = e

pub or_false : (a b : Bool) → (a || b) ≡ false → (a ≡ false) × (b ≡ false)
or_false true b h = absurd (grind (arith, h))
or_false false b h = (refl, h)

pub false_or : (a b : Bool) → a ≡ false → b ≡ false → (a || b) ≡ false
false_or true b h k = h
false_or false b h k = k

pub yes : {B : Type 0} (b : Bool) (x y : B) → b ≡ true → (if b then x else y) ≡ x
yes true x y e = refl
yes false x y e = absurd (grind (arith, e))

pub no : {B : Type 0} (b : Bool) (x y : B) → b ≡ false → (if b then x else y) ≡ y
no true x y e = absurd (grind (arith, e))
no false x y e = refl

-- what is not true is false
pub untrue : (b : Bool) → (b ≡ true → ⊥) → b ≡ false
untrue true never = absurd (never refl)
untrue false _ = refl
