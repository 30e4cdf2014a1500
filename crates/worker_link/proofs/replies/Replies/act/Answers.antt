use Rattle.worker_link.proofs.Queues.{phase_at}
use Rattle.worker_link.proofs.replies.Replies.act.Goals as goal

pub returns-in-Answer-clause-phase : goal.returns-in-Answer-clause-phase
returns-in-Answer-clause-phase g c =
    phase_at (record { queue = c.self.inside.queue; held = c.self.inside.held }) c.args.self.now c.replied.new.self.phase c.args.reply.0 c.requires.reply.job c.self.view_is c.replied.ensures.phase c.requires.reply.was_sent

pub returns-in-Ok-clause-phase : goal.returns-in-Ok-clause-phase
returns-in-Ok-clause-phase g c =
    phase_at (record { queue = c.self.inside.queue; held = c.self.inside.held }) c.args.self.now c.replied-in-Ok.new.self.phase c.args.reply.0 c.requires.reply.job c.self.view_is c.replied-in-Ok.ensures.phase c.requires.reply.was_sent
