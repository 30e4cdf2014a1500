use Rattle.std.proofs.Common.{◌≡◌, map, length}
use Rattle.thunk_codec.specs.Thunk.{is_strictly_increasing}
use Rattle.thunk_codec.proofs.rules.paths_are_sorted.Given as goal

abbrev pub invariant-inputs : goal.invariant-inputs
invariant-inputs g l = is_strictly_increasing (map (λ input. input.0) l.rest) ≡ is_strictly_increasing (map (λ input. input.0) l.inputs)

abbrev pub decreases-inputs : goal.decreases-inputs
decreases-inputs g l = length l.rest
