use Rattle.object_name.proofs.NameOrder.{name_cmp_total}
use Rattle.object_name.proofs.NameTies.{eq_by_cmp-name}
use Rattle.object_name.proofs.laws.names_are_ordered.Goals as goal

pub returns-clause-total : goal.returns-clause-total
returns-clause-total c = name_cmp_total

pub returns-clause-ties : goal.returns-clause-ties
returns-clause-ties c = eq_by_cmp-name
