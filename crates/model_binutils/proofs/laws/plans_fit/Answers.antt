use Rattle.model_binutils.proofs.PlansFit.{plans_fit}
use Rattle.model_binutils.proofs.laws.plans_fit.Goals as goal

pub returns : goal.returns
returns c = plans_fit
