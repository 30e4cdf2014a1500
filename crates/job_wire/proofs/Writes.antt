-- Writing things one after the other.
use Rattle.std.proofs.Common.{◌≡◌, ℕ, ◌^◌, ◌<◌, List, length, get_or, ap, arith}
use Rattle.std.specs.List.{flat_map}
use Rattle.std.proofs.lemmas.List.Folds.{length-flat_map-take}

-- a part is no longer than the whole
pub part_is_short : {A : Type 0} (spelled : A → List ℕ) (xs : List A) (i : ℕ) (x : A) → i < length xs → x ≡ get_or xs i x → length (flat_map spelled xs) < 2 ^ 32 → length (spelled x) < 2 ^ 32
part_is_short spelled xs i x lt is short =
    let e = ap (λ (v : _). length (spelled v)) is in
    omega (arith, short, e, length-flat_map-take spelled xs i x lt)
