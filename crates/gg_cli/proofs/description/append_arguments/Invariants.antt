use Rattle.std.proofs.Common.{◌≡◌, ◌++◌, take}
use Rattle.std.specs.List.{flat_map}
use Rattle.gg_cli.specs.Description.{argument_line}
use Rattle.gg_cli.proofs.description.append_arguments.Given as goal

abbrev pub invariant-texts : goal.invariant-texts
invariant-texts l = l.text ≡ l.initial.text ++ flat_map argument_line (take l.arg-index l.args)
