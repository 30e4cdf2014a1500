-- The order of names as a test of whether two names are one.
use Rattle.std.proofs.Common.{◌≡◌, ◌↔◌, Bool, true, false, refl, subst}
use Rattle.std.specs.Ordering.{eq_by_cmp}
use Rattle.std.proofs.lemmas.Cmp.{eq_by_cmp_equiv}
use Rattle.std.proofs.lemmas.Map.Views.{tells_apart}
use Rattle.object_name.specs.Name.{ObjectName, name_cmp}
use Rattle.object_name.proofs.NameOrder.{name_cmp_total, name_cmp-IsAntisymmetric}

-- a name ties with itself
pub name_cmp-same : (a : ObjectName) → eq_by_cmp name_cmp a a ≡ true
name_cmp-same a = (eq_by_cmp_equiv name_cmp_total).refl a

-- the test of two names is true exactly where they are one
pub eq_by_cmp-name : (a b : ObjectName) → (eq_by_cmp name_cmp a b ≡ true) ↔ (a ≡ b)
eq_by_cmp-name a b =
    (tells_apart name_cmp-IsAntisymmetric a b, λ e. subst (λ (c : ObjectName). eq_by_cmp name_cmp a c ≡ true) e (name_cmp-same a))

-- a test that is not true is false
pub untrue : (b : Bool) → (b ≡ true → ⊥) → b ≡ false
untrue true never = absurd (never refl)
untrue false _ = refl

-- the test of two names that differ is false
pub eq_by_cmp-other : (a b : ObjectName) → (a ≡ b → ⊥) → eq_by_cmp name_cmp a b ≡ false
eq_by_cmp-other a b differ = untrue (eq_by_cmp name_cmp a b) (λ e. differ ((eq_by_cmp-name a b).0 e))
