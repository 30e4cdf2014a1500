use Rattle.std.proofs.Common.{subst, sym}
use Rattle.build_plan.proofs.FilesAreFound.{finds-fault, item-by_bytes, item-refused}
use Rattle.build_plan.proofs.WorkGoesOn.{handed}
use Rattle.build_plan.specs.Symbolic.{item_or}
use Rattle.build_plan.specs.Gathered.{item_of}
use Rattle.build_plan.specs.StepContracts.{Finds}
use Rattle.build_plan.proofs.reading.item_of.Goals as goal

pub returns-in_err-bytes-clause-exact : goal.returns-in_err-bytes-clause-exact
returns-in_err-bytes-clause-exact c =
    handed (Finds (item_or (item_of c.args.path.now c.args.read))) _ _ c.from_residual.ensures
    (finds-fault _ (item_or (item_of c.args.path.now c.args.read)) _ (item-refused c.args.path.now c.args.read) c.in_err-bytes.ensures.exact)

pub returns-clause-exact : goal.returns-clause-exact
returns-clause-exact c =
    subst (λ wanted. Finds wanted c.item_of_bytes.result) (sym (item-by_bytes c.args.path.now c.args.read c.in_ok-bytes.bytes c.in_ok-bytes.ensures.exact)) c.item_of_bytes.ensures.exact
