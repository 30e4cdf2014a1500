use Rattle.std.proofs.Common.{◌≡◌, ◌++◌, take}
use Rattle.std.specs.List.{flat_map}
use Rattle.gg_cli.specs.Description.{input_line}
use Rattle.gg_cli.proofs.description.append_inputs.Given as goal

abbrev pub invariant-inputs : goal.invariant-inputs
invariant-inputs l = l.text ≡ l.initial.text ++ flat_map input_line (take l.path-index l.inputs)
