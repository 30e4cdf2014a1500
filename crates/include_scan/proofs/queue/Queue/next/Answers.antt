use Rattle.std.proofs.Common.{refl}
use Rattle.include_scan.proofs.QueueKeepsWaiting.{is_next}
use Rattle.include_scan.proofs.queue.Queue.next.Goals as goal

pub returns-clause-next : goal.returns-clause-next
returns-clause-next c files index waits =
    is_next files index c.args.self.now record { visited = c.args.self.now.visited; waiting = c.pop_front.new.self } waits c.pop_front.result c.pop_front.ensures.items c.pop_front.ensures.rest refl
