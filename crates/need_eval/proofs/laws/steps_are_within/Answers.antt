use Rattle.need_eval.proofs.StepsAreWithin.{steps-grow, steps-within}
use Rattle.need_eval.proofs.laws.steps_are_within.Goals as goal

pub returns-clause-budget : goal.returns-clause-budget
returns-clause-budget c = steps-within

pub returns-clause-grow : goal.returns-clause-grow
returns-clause-grow c = steps-grow
