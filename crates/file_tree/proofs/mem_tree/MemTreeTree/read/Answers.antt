use Rattle.file_tree.proofs.TreeAsMap.{read-found}
use Rattle.file_tree.proofs.mem_tree.MemTreeTree.read.Goals as goal

pub returns-clause-found : goal.returns-clause-found
returns-clause-found c =
    read-found c.args.self.now c.self.inside.held.entries c.self.inside.calls c.self.inside.changes.items c.args.path.now _ c.in_ok-file_read.field-0 c.self.view_is c.get.ensures.value c.in_ok-file_read.ensures.exact
