use Rattle.std.proofs.Common.{◌≡◌}
use Rattle.std.specs.FinMap as map
use Rattle.object_name.specs.Maps.{map_of}
use Rattle.file_tree.specs.Memory.{path_cmp}
use Rattle.file_tree.proofs.mem_tree.MemTree.new.Given as goal

abbrev pub invariant-files : goal.invariant-files
invariant-files l = map.from_entries {R = path_cmp} l.held.entries ≡ map_of l.yielded
