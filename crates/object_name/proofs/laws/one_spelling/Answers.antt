use Rattle.object_name.proofs.NameLemmas.{one_spelling}
use Rattle.object_name.proofs.laws.one_spelling.Goals as goal

pub returns : goal.returns
returns c = one_spelling
