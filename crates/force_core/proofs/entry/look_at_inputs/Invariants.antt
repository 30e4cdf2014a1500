use Rattle.std.proofs.Common.{◌≡◌, take, true}
use Rattle.std.specs.List.{list_all}
use Rattle.thunk_codec.specs.Path.{is_path}
use Rattle.force_core.proofs.entry.look_at_inputs.Given as goal

abbrev pub invariant-inputs : goal.invariant-inputs
invariant-inputs l = list_all (λ input. is_path input.0) (take l.input-index l.inputs) ≡ true
