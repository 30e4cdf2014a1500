use Rattle.object_name.proofs.NameLemmas.{named_by-spelling, spelling-named_by}
use Rattle.object_name.proofs.laws.spellings_read_back.Goals as goal

pub returns-clause-spelled : goal.returns-clause-spelled
returns-clause-spelled c = named_by-spelling

pub returns-clause-named : goal.returns-clause-named
returns-clause-named c = spelling-named_by
