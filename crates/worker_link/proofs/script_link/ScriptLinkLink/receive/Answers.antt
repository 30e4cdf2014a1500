use Rattle.worker_link.proofs.Scripts.{script_cause}
use Rattle.worker_link.proofs.script_link.ScriptLinkLink.receive.Goals as goal

pub returns-clause-cause : goal.returns-clause-cause
returns-clause-cause g c =
    script_cause (g.R.Runner.faults c.args.self.now.runner) (g.R.Runner.faults c.run_next.new.runner) c.args.self.now.script.taken c.args.self.now.script.left c.next-action.new.self c.next-action.result c.in_ok-reply.reply c.act.result c.act.new.self.held
    c.in_ok-reply.ensures.cause.later c.in_ok-reply.ensures.cause.most c.next-action.ensures.after c.next-action.ensures.action c.act.ensures.acts
