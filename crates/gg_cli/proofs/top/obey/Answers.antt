use Rattle.std.proofs.Common.{ap, Err}
use Rattle.blob_store.specs.Keeping.{kept}
use Rattle.file_tree.specs.Files.{filed_in}
use Rattle.gg_cli.proofs.LinesFitTheStatus.{answer_of-found, usage_ends}
use Rattle.gg_cli.specs.declared.fault.TopFault.TheVariants as tops
use Rattle.gg_cli.proofs.ReadingMakesTheAnswer.{stops_end}
use Rattle.gg_cli.proofs.top.obey.Goals as goal

pub returns-in-Ok-clause-ends : goal.returns-in-Ok-clause-ends
returns-in-Ok-clause-ends g c kept files text told = rw (answer_of-found _ text _ _ _ c.in-Ok.ensures.found) (c.read_and_do.ensures.ends kept files text (rw c.in-Ok.ensures.found at told))

pub returns-in-Err-Usage-clause-ends : goal.returns-in-Err-Usage-clause-ends
returns-in-Err-Usage-clause-ends g c tells tell text told =
    usage_ends _ text (kept g.K.Keeper.store g.K.Keeper.writes c.args.keeper.now) (filed_in g.T.Tree.files g.T.Tree.changes c.args.tree.now) _ (c.in-Err-Usage.ensures.usage (ap Err c.in-Err-Usage.field-0-is))

pub returns-in-Err-Memory-clause-ends : goal.returns-in-Err-Memory-clause-ends
returns-in-Err-Memory-clause-ends g c tells tell text told =
    stops_end (kept g.K.Keeper.store g.K.Keeper.writes c.args.keeper.now) (filed_in g.T.Tree.files g.T.Tree.changes c.args.tree.now) _ _ tops.Memory tt
