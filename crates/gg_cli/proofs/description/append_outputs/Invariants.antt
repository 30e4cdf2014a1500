use Rattle.std.proofs.Common.{◌≡◌, ◌++◌, take}
use Rattle.gg_cli.specs.Description.{output_lines}
use Rattle.gg_cli.proofs.description.append_outputs.Given as goal

abbrev pub invariant-outputs : goal.invariant-outputs
invariant-outputs l = l.text ≡ l.initial.text ++ output_lines 0 (take l.index l.outputs)
