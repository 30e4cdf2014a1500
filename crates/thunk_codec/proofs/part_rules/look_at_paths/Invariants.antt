use Rattle.std.proofs.Common.{◌≡◌, take, true}
use Rattle.std.specs.List.{list_all}
use Rattle.thunk_codec.specs.Path.{is_path}
use Rattle.thunk_codec.proofs.part_rules.look_at_paths.Given as goal

abbrev pub invariant-paths : goal.invariant-paths
invariant-paths l = list_all is_path (take l.path-index l.paths) ≡ true
