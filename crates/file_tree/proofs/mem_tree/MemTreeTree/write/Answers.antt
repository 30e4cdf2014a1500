use Rattle.file_tree.proofs.TreeAsMap.{memory-inserted}
use Rattle.file_tree.proofs.mem_tree.MemTreeTree.write.Goals as goal

pub returns-clause-made : goal.returns-clause-made
returns-clause-made c =
    memory-inserted c.args.self.now c.self.inside.held.entries c.keep.new.held.entries c.self.inside.calls c.begin.new.self c.self.inside.changes.items c.keep.new.changes.items
    c.args.path.now c.args.bytes.now c.self.view_is c.in_ok-begin.ensures.next c.in_ok-keep.ensures.put c.in_ok-keep.ensures.listed
