use Rattle.need_eval.specs.Eval.{Clash}
use Rattle.need_eval.proofs.ValuesAreHeld.{stop-shows}
use Rattle.need_eval.proofs.laws.clashes_are_met.Goals as goal

pub returns : goal.returns
returns c = λ answer budget refs first name found fresh last is. stop-shows answer budget refs first (Clash name found fresh) last is
