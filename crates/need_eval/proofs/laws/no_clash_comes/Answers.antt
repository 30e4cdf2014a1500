use Rattle.need_eval.proofs.ClashesAreMet.{no-clash}
use Rattle.need_eval.proofs.laws.no_clash_comes.Goals as goal

pub returns : goal.returns
returns c = no-clash
