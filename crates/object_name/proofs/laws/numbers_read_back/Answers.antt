use Rattle.object_name.proofs.NumberLemmas.{number_of-decimal, decimal-number_of}
use Rattle.object_name.proofs.laws.numbers_read_back.Goals as goal

pub returns-clause-written : goal.returns-clause-written
returns-clause-written c = number_of-decimal

pub returns-clause-numbered : goal.returns-clause-numbered
returns-clause-numbered c = decimal-number_of
