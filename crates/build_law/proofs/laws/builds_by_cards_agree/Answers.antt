use Rattle.build_law.proofs.CppSeesEnough.{cards-agree}
use Rattle.build_law.proofs.laws.builds_by_cards_agree.Goals as goal

pub returns : goal.returns
returns c = cards-agree
