use Rattle.std.proofs.Common.{◌≡◌, take, map, true}
use Rattle.std.specs.List.{list_all}
use Rattle.thunk_codec.specs.Path.{is_path}
use Rattle.thunk_codec.proofs.canonical.canonical_inputs.Given as goal

abbrev pub invariant-inputs : goal.invariant-inputs
invariant-inputs l = (l.made ≡ take l.text-index l.inputs) × (list_all is_path (map (λ input. input.0) (take l.text-index l.inputs)) ≡ true)
