use Rattle.build_plan.proofs.targets.change_target.Goals as goal

pub returns-in-Keep-clause-changes : goal.returns-in-Keep-clause-changes
returns-in-Keep-clause-changes g c told = rw c.in-Keep.is (c.write_made.ensures.changes told)

pub returns-in-Drop-clause-changes : goal.returns-in-Drop-clause-changes
returns-in-Drop-clause-changes g c told = rw c.in-Drop.is (c.remove_file.ensures.changes told)
