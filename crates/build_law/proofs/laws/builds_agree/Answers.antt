use Rattle.build_law.proofs.ForcingAgrees.{build-agrees}
use Rattle.build_law.proofs.laws.builds_agree.Goals as goal

pub returns : goal.returns
returns c = build-agrees
