use Rattle.need_eval.proofs.ProgressConcludes.{concludes-values, concludes-reading, concludes-run, concludes-supplying}
use Rattle.need_eval.proofs.laws.progress_concludes.Goals as goal

pub returns-clause-values : goal.returns-clause-values
returns-clause-values g c = concludes-values g.F.Function.tells g.F.Function.outcome

pub returns-clause-fault : goal.returns-clause-fault
returns-clause-fault g c = concludes-reading g.F.Function.tells g.F.Function.outcome

pub returns-clause-running : goal.returns-clause-running
returns-clause-running g c = concludes-run g.F.Function.tells g.F.Function.outcome

pub returns-clause-supplying : goal.returns-clause-supplying
returns-clause-supplying g c = concludes-supplying g.F.Function.tells g.F.Function.outcome
