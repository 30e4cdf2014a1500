use Rattle.std.proofs.Common.{◌≡◌}
use Rattle.file_tree.proofs.mem_tree.MemTree.into_content.Given as goal

abbrev pub invariant-files : goal.invariant-files
invariant-files l = l.files ≡ l.yielded
