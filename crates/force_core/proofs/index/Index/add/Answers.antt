use Rattle.force_core.specs.Index.{is_among, is_number, first_at}
use Rattle.force_core.proofs.Numbers.{or-right, or-second, among-push, among-pushed}
use Rattle.force_core.proofs.index.Index.add.Goals as goal

pub returns-then-contains_key-clause-added : goal.returns-then-contains_key-clause-added
returns-then-contains_key-clause-added c =
    rw c.push_reserved.ensures.items (or-second (is_number c.args.id (first_at c.args.self.now c.args.name)) _ (among-pushed c.args.self.now.others.items c.args.id))

pub returns-then-contains_key-clause-kept : goal.returns-then-contains_key-clause-kept
returns-then-contains_key-clause-kept c = λ other number led.
    rw c.push_reserved.ensures.items (or-right (is_number number (first_at c.args.self.now other)) (is_among number c.args.self.now.others.items) _ (among-push c.args.self.now.others.items c.args.id number) led)
