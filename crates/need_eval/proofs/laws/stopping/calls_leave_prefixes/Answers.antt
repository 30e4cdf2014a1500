use Rattle.need_eval.proofs.CallsLeavePrefixes.{calls-leave, calls-made}
use Rattle.need_eval.proofs.laws.stopping.calls_leave_prefixes.Goals as goal

pub returns-clause-made : goal.returns-clause-made
returns-clause-made c = calls-made

pub returns-clause-once : goal.returns-clause-once
returns-clause-once c = calls-leave
