use Rattle.build_law.proofs.LinesArePlans.{scripts-agree}
use Rattle.build_law.proofs.laws.scripts_agree.Goals as goal

pub returns : goal.returns
returns c = scripts-agree
