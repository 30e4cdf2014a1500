-- Finite maps that are made of pairs.
use Rattle.std.specs.Prelude.{List, fold}
use Rattle.std.specs.FinMap as map
use Rattle.std.specs.declared.cmp.Ordering.{Ordering}

-- the map of some pairs: a later one replaces an earlier one of the same key
abbrev pub map_of : {K X : Type 0} {R : K → K → Ordering} → List (K × X) → map.FinMap R X
map_of pairs = fold (λ kept pair. map.insert kept pair.0 pair.1) map.empty pairs
