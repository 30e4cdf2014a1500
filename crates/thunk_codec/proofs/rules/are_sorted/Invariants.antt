use Rattle.std.proofs.Common.{◌≡◌, map, length}
use Rattle.thunk_codec.specs.Thunk.{is_strictly_increasing}
use Rattle.thunk_codec.proofs.rules.are_sorted.Given as goal

abbrev pub invariant-items : goal.invariant-items
invariant-items g l = is_strictly_increasing (map (λ item. item.0) l.rest) ≡ is_strictly_increasing (map (λ item. item.0) l.items)

abbrev pub decreases-items : goal.decreases-items
decreases-items g l = length l.rest
