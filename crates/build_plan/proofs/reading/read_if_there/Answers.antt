use Rattle.std.proofs.Common.{sym, subst}
use Rattle.file_tree.specs.Files.{file_read}
use Rattle.build_plan.specs.StepContracts.{Finds, item_if_there}
use Rattle.build_plan.proofs.CountsAddUp.{handed-reads, reads-then, reads-none}
use Rattle.build_plan.proofs.FilesAreFound.{finds-unread, same_ok}
use Rattle.build_plan.proofs.WorkGoesOn.{handed}
use Rattle.build_plan.proofs.reading.read_if_there.Goals as goal

pub returns-in_err-read-clause-exact : goal.returns-in_err-read-clause-exact
returns-in_err-read-clause-exact g c told =
    let wanted = item_if_there c.args.path.now (file_read (g.T.Tree.files c.args.tree.now c.args.path.now)) in
    handed (Finds wanted) _ c.in_err-read.field-0.0 c.from_residual.ensures (finds-unread _ wanted _ (c.in_err-read.ensures.exact told))

pub returns-in_err-read-clause-reads : goal.returns-in_err-read-clause-reads
returns-in_err-read-clause-reads g c = handed-reads _ _ _ _ _ _ _ _ c.in_err-read.field-0.0 _ c.from_residual.ensures c.in_err-read.ensures.reads

pub returns-clause-exact : goal.returns-clause-exact
returns-clause-exact g c told =
    subst (λ read. Finds (item_if_there c.args.path.now read) c.item_if_there.result) (sym (same_ok _ _ (c.in_ok-read.ensures.exact told))) c.item_if_there.ensures.exact

pub returns-clause-reads : goal.returns-clause-reads
returns-clause-reads g c = reads-then _ _ _ _ _ _ _ _ _ _ _ c.in_ok-read.ensures.reads (reads-none _ _ _ _ _ _ _ _ c.item_if_there.ensures.pure)
