use Rattle.std.proofs.Common.{rules}
use Rattle.file_tree.proofs.TreeAsMap.{memory-removed}
use Rattle.file_tree.proofs.mem_tree.MemTreeTree.remove.Goals as goal

pub returns-clause-made : goal.returns-clause-made
returns-clause-made c =
    memory-removed c.args.self.now c.self.inside.held.entries c.remove.new.self.entries c.self.inside.calls c.begin.new.self c.self.inside.changes.items c.push.new.self.items
    c.args.path.now c.self.view_is c.in_ok-begin.ensures.next c.remove.ensures.updates.0 (search rules)
