use Rattle.std.specs.Arc.{arc_value}
use Rattle.force_core.proofs.Untaken.{taken-gone}
use Rattle.force_core.proofs.entry.Entry.take.Goals as goal

pub returns-clause-gone : goal.returns-clause-gone
returns-clause-gone g c =
    let e = c.self.inside in
    rw c.take.ensures.after (taken-gone g.F.Function.tells g.F.Function.outcome (record { text = e.text; job = arc_value e.job; outcome = e.outcome; answer = e.answer }) c.take.result c.self.invariant.1 c.take.ensures.value)
