use Rattle.file_tree.proofs.TreeAsMap.{map_of-more}
use Rattle.file_tree.proofs.mem_tree.MemTree.new.Goals as goal

pub files-preserved-in_ok-insert : goal.files-preserved-in_ok-insert
files-preserved-in_ok-insert c =
    map_of-more c.files.yielded c.files.held.entries c.insert.new.self.entries c.in-Some.path c.in-Some.bytes c.files.invariant c.in_ok-insert.ensures.updates.0

pub files-preserved : goal.files-preserved
files-preserved c =
    map_of-more c.files.yielded c.files.held.entries c.insert.new.self.entries c.in-Some.path c.in-Some.bytes c.files.invariant c.in_ok-insert.ensures.updates.0
