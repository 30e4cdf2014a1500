use Rattle.std.proofs.Common.{refl}
use Rattle.build_plan.specs.Doing.{give}
use Rattle.build_plan.proofs.CountsAddUp.{keeper-none}
use Rattle.build_plan.proofs.WorkGoesOn.{leads-none}
use Rattle.build_plan.proofs.stored.store_item.Goals as goal

pub returns-in-Plain-clause-goes : goal.returns-in-Plain-clause-goes
returns-in-Plain-clause-goes g c told files = rw c.in-Plain.is (rw c.as_slice.ensures at (c.store_value.ensures.goes told files))

pub returns-in-Output-clause-goes : goal.returns-in-Output-clause-goes
returns-in-Output-clause-goes g c told files = rw c.in-Output.is (leads-none (give _) _ _ files files refl refl)

pub returns-in-Output-clause-fares : goal.returns-in-Output-clause-fares
returns-in-Output-clause-fares g c = keeper-none _ _ _ _ _ _ tt
