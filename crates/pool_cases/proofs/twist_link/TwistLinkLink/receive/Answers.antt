use Rattle.pool_cases.proofs.ChangedReplies.{changed_reply}
use Rattle.pool_cases.proofs.twist_link.TwistLinkLink.receive.Goals as goal

pub returns-in-Ok-clause-reply : goal.returns-in-Ok-clause-reply
returns-in-Ok-clause-reply g c =
    changed_reply g.L.Function.tells g.L.Function.outcome (g.L.Link.jobs c.args.self.now.link) c.in-Ok.lease c.in-Ok.outcome c.given.result c.in-Ok.ensures.reply c.given.ensures
