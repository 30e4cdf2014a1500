-- How a name is stored where it is a key or a part of a value.
use Rattle.std.specs.Prelude.{◌≡◌, ℕ, suc, zero, List, refl}
use Rattle.std.proofs.Common.{ap}
use Rattle.std.specs.Coded.{Coded, code_by, coded×, coded_list, coded_ℕ}
use Rattle.object_name.specs.declared.kind.Kind.{Kind}
use Rattle.object_name.specs.declared.kind.Kind.TheVariants.{Value, Thunk}
use Rattle.object_name.specs.Kind.{rank_of_kind}
use Rattle.object_name.specs.Name.{ObjectName}

-- the kind of a rank
abbrev pub kind_of_rank : ℕ → Kind
kind_of_rank zero = Value
kind_of_rank (suc n) = Thunk

pub kind_of_rank-rank_of_kind : (k : Kind) → kind_of_rank (rank_of_kind k) ≡ k
kind_of_rank-rank_of_kind Value = refl
kind_of_rank-rank_of_kind Thunk = refl

-- the name of these parts
abbrev pub name_from : List ℕ → ℕ → Kind → ObjectName
name_from digest size kind = record { kind = kind; digest = digest; size = size }

-- a name is stored as the rank of its kind, its digest and its size
abbrev pub name_code : Coded ObjectName
name_code =
    code_by (ℕ × (List ℕ × ℕ)) (coded× coded_ℕ (coded× (coded_list coded_ℕ) coded_ℕ)) (λ n. (rank_of_kind n.kind, (n.digest, n.size)))
    (λ p. name_from p.1.0 p.1.1 (kind_of_rank p.0)) (λ n. ap (name_from n.digest n.size) (kind_of_rank-rank_of_kind n.kind))
