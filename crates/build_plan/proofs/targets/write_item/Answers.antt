use Rattle.build_plan.proofs.targets.write_item.Goals as goal

pub returns-in-Plain-clause-changes : goal.returns-in-Plain-clause-changes
returns-in-Plain-clause-changes g c told = rw c.in-Plain.is (rw c.as_slice.ensures at (c.write_file.ensures.changes told))

pub returns-in-Output-clause-changes : goal.returns-in-Output-clause-changes
returns-in-Output-clause-changes g c told = rw c.in-Output.is (c.leave_placeholder.ensures.changes told)
