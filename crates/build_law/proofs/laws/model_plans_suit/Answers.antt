use Rattle.build_law.proofs.ModelPlansSuit.{gcc-suits, binutils-suits}
use Rattle.build_law.proofs.laws.model_plans_suit.Goals as goal

pub returns-clause-gcc : goal.returns-clause-gcc
returns-clause-gcc c = gcc-suits

pub returns-clause-binutils : goal.returns-clause-binutils
returns-clause-binutils c = binutils-suits
