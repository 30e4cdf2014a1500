use Rattle.need_eval.proofs.ProgressConcludes.{progress-begins, progress-goes_on, progress-is_supplied}
use Rattle.need_eval.proofs.laws.progress_goes_on.Goals as goal

pub returns-clause-begins : goal.returns-clause-begins
returns-clause-begins g c = progress-begins g.F.Function.tells g.F.Function.outcome

pub returns-clause-goes_on : goal.returns-clause-goes_on
returns-clause-goes_on g c = progress-goes_on g.F.Function.tells g.F.Function.outcome

pub returns-clause-is_supplied : goal.returns-clause-is_supplied
returns-clause-is_supplied g c = progress-is_supplied g.F.Function.tells g.F.Function.outcome
