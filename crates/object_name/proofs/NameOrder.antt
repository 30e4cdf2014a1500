-- The order of names: total, and only equal names tie.
use Rattle.std.proofs.Common.{◌≡◌, ap, ◌∙◌, sym, refl}
use Rattle.std.specs.Ordering.{nat_cmp, ordering_then}
use Rattle.std.specs.declared.cmp.Ordering.{Ordering}
use Rattle.std.specs.declared.cmp.Ordering.TheVariants.{Less, Equal, Greater}
use Rattle.std.specs.Cmp.{IsTotalOrder, on_total, then_total, nat_cmp_total}
use Rattle.std.specs.Cmp.Lexicographic.{slice_cmp, lists_total}
use Rattle.std.specs.FinMap.{IsAntisymmetric, nat_cmp-IsAntisymmetric, slice_cmp-IsAntisymmetric}
use Rattle.object_name.specs.Kind.{rank_of_kind}
use Rattle.object_name.specs.Name.{ObjectName, name_cmp}
use Rattle.object_name.specs.NameCode.{kind_of_rank, kind_of_rank-rank_of_kind}

-- the order of names is total
pub name_cmp_total : IsTotalOrder name_cmp
name_cmp_total =
    then_total (then_total (on_total (λ (n : ObjectName). n.digest) (lists_total nat_cmp_total)) (on_total (λ (n : ObjectName). n.size) nat_cmp_total))
    (on_total (λ (n : ObjectName). rank_of_kind n.kind) nat_cmp_total)

-- two comparisons in turn tie where both do
both_tie : (a b : Ordering) → ordering_then a b ≡ Equal → (a ≡ Equal) × (b ≡ Equal)
both_tie Less b e = cc e
both_tie Equal b e = (refl, e)
both_tie Greater b e = cc e

-- only equal names tie
pub name_cmp-IsAntisymmetric : IsAntisymmetric name_cmp
name_cmp-IsAntisymmetric m n e =
    let outer = both_tie _ (nat_cmp (rank_of_kind m.kind) (rank_of_kind n.kind)) e in
    let inner = both_tie (slice_cmp nat_cmp m.digest n.digest) (nat_cmp m.size n.size) outer.0 in
    let digest = slice_cmp-IsAntisymmetric nat_cmp-IsAntisymmetric m.digest n.digest inner.0 in
    let size = nat_cmp-IsAntisymmetric m.size n.size inner.1 in
    let rank = nat_cmp-IsAntisymmetric (rank_of_kind m.kind) (rank_of_kind n.kind) outer.1 in
    let kind = sym (kind_of_rank-rank_of_kind m.kind) ∙ ap kind_of_rank rank ∙ kind_of_rank-rank_of_kind n.kind in
    λ i. record { kind = kind i; digest = digest i; size = size i }
