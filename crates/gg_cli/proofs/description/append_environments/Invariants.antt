use Rattle.std.proofs.Common.{◌≡◌, ◌++◌, take}
use Rattle.std.specs.List.{flat_map}
use Rattle.gg_cli.specs.Description.{environment_line}
use Rattle.gg_cli.proofs.description.append_environments.Given as goal

abbrev pub invariant-envs : goal.invariant-envs
invariant-envs l = l.text ≡ l.initial.text ++ flat_map environment_line (take l.key-index l.envs)
