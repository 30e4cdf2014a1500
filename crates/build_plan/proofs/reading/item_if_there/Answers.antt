use Rattle.std.proofs.Common.{ap, ◌∙◌}
use Rattle.build_plan.specs.Gathered.{item_of}
use Rattle.build_plan.specs.Symbolic.{item_or}
use Rattle.build_plan.specs.StepContracts.{Finds, item_if_there, some_item}
use Rattle.build_plan.proofs.FilesAreFound.{finds-fault, there-is}
use Rattle.build_plan.proofs.WorkGoesOn.{handed}
use Rattle.build_plan.proofs.reading.item_if_there.Goals as goal

pub returns-in_ok-item_of-in_default-clause-exact : goal.returns-in_ok-item_of-in_default-clause-exact
returns-in_ok-item_of-in_default-clause-exact c = there-is c.args.path.now c.args.read c.in_default.not-Absent ∙ ap some_item c.in_ok-item_of-in_default.ensures.exact

pub returns-in_err-item_of-in_default-clause-exact : goal.returns-in_err-item_of-in_default-clause-exact
returns-in_err-item_of-in_default-clause-exact c =
    let wanted = item_if_there c.args.path.now c.args.read in
    let item = item_or (item_of c.args.path.now c.args.read) in
    handed (Finds wanted) _ c.in_err-item_of-in_default.field-0.0 c.from_residual.ensures
    (finds-fault item wanted _ (λ why e. there-is c.args.path.now c.args.read c.in_default.not-Absent ∙ ap some_item e) c.in_err-item_of-in_default.ensures.exact)
