use Rattle.std.proofs.Common.{ap, Err, map, refl, Some, string_bytes, ◌∙◌}
use Rattle.blob_store.specs.Keeping.{kept}
use Rattle.file_tree.specs.Files.{filed_in}
use Rattle.force_pool.specs.Links.{marks_of}
use Rattle.need_eval.specs.Evaluation.{by_function}
use Rattle.gg_cli.specs.declared.fault.TopFault.TheVariants as tops
use Rattle.gg_cli.specs.Linked.{linked_answer}
use Rattle.gg_cli.proofs.ReadingMakesTheAnswer.{stops_end}
use Rattle.gg_cli.proofs.LinksMakeTheAnswer.{asked_by-found, linked_answer-found, linked_answer-none, some_found, unstarted_ends, unstarted_words}
use Rattle.gg_cli.proofs.LinksComeBack.{unused_keep}
use Rattle.gg_cli.proofs.linked_top.obey_over.Goals as goal

pub returns-in-Ok-ForceWith-clause-exact : goal.returns-in-Ok-ForceWith-clause-exact
returns-in-Ok-ForceWith-clause-exact g c keeps tells told =
    let is = c.in-Ok-ForceWith.ensures.found ∙ ap Some c.in-Ok-ForceWith.field-0-is in
    rw (linked_answer-found (by_function g.L.Function.outcome) c.force_over.result.report (map string_bytes c.args.words.now) (g.K.Keeper.store c.args.keeper.now) (g.T.Tree.files c.args.tree.now) _ is)
    ((rw c.as_slice.ensures at (c.force_over.ensures.exact keeps tells)) (rw (asked_by-found (by_function g.L.Function.outcome) (map string_bytes c.args.words.now) (g.K.Keeper.store c.args.keeper.now) (g.T.Tree.files c.args.tree.now) _ is) at told))

pub returns-in-Ok-ForceWith-clause-some : goal.returns-in-Ok-ForceWith-clause-some
returns-in-Ok-ForceWith-clause-some g c keeps tells =
    let is = c.in-Ok-ForceWith.ensures.found ∙ ap Some c.in-Ok-ForceWith.field-0-is in
    some_found g.L.Function.tells g.L.Function.outcome c.force_over.result.report (map string_bytes c.args.words.now) (g.K.Keeper.store c.args.keeper.now) (g.T.Tree.files c.args.tree.now) _ is _ c.force_over.result.end (rw c.as_slice.ensures at (c.force_over.ensures.some keeps tells))

pub returns-in-Err-Usage-clause-exact : goal.returns-in-Err-Usage-clause-exact
returns-in-Err-Usage-clause-exact g c keeps tells told =
    let outcomes = by_function g.L.Function.outcome in
    unstarted_ends c.unstarted.result.end _ _ c.unstarted.ensures.end refl _ _
    (stops_end (kept g.K.Keeper.store g.K.Keeper.writes c.args.keeper.now) (filed_in g.T.Tree.files g.T.Tree.changes c.args.tree.now) (g.O.Sink.written c.args.out.now) (linked_answer outcomes c.unstarted.result.report (map string_bytes c.args.words.now) (g.K.Keeper.store c.args.keeper.now) (g.T.Tree.files c.args.tree.now)) tops.Usage (linked_answer-none outcomes c.unstarted.result.report (map string_bytes c.args.words.now) (g.K.Keeper.store c.args.keeper.now) (g.T.Tree.files c.args.tree.now) (c.in-Err-Usage.ensures.usage (ap Err c.in-Err-Usage.field-0-is))))

pub returns-in-Err-Usage-clause-some : goal.returns-in-Err-Usage-clause-some
returns-in-Err-Usage-clause-some g c keeps tells =
    unstarted_words g.L.Function.tells g.L.Function.outcome (g.K.Keeper.store c.args.keeper.now) (g.T.Tree.files c.args.tree.now) c.unstarted.result.end tops.Usage c.unstarted.ensures.end (map string_bytes c.args.words.now)
    (λ outcomes. linked_answer outcomes c.unstarted.result.report (map string_bytes c.args.words.now) (g.K.Keeper.store c.args.keeper.now) (g.T.Tree.files c.args.tree.now)) _
    (λ outcomes. stops_end (kept g.K.Keeper.store g.K.Keeper.writes c.args.keeper.now) (filed_in g.T.Tree.files g.T.Tree.changes c.args.tree.now) (g.O.Sink.written c.args.out.now) (linked_answer outcomes c.unstarted.result.report (map string_bytes c.args.words.now) (g.K.Keeper.store c.args.keeper.now) (g.T.Tree.files c.args.tree.now)) tops.Usage (linked_answer-none outcomes c.unstarted.result.report (map string_bytes c.args.words.now) (g.K.Keeper.store c.args.keeper.now) (g.T.Tree.files c.args.tree.now) (c.in-Err-Usage.ensures.usage (ap Err c.in-Err-Usage.field-0-is))))

pub returns-in-Err-Usage-clause-keeps : goal.returns-in-Err-Usage-clause-keeps
returns-in-Err-Usage-clause-keeps g c =
    let e = c.unstarted.ensures in
    rw e.links (unused_keep g.L.Function.tells _ _ _ (marks_of g.L.Link.jobs g.L.Link.faults c.args.links) _ c.unstarted.result.report tops.Usage refl e.report.0 e.report.1 e.report.2 e.report.3 c.unstarted.result.end e.end)

pub returns-clause-exact : goal.returns-clause-exact
returns-clause-exact g c keeps tells told =
    let outcomes = by_function g.L.Function.outcome in
    unstarted_ends c.unstarted-in-Err-Memory.result.end _ _ c.unstarted-in-Err-Memory.ensures.end refl _ _
    (stops_end (kept g.K.Keeper.store g.K.Keeper.writes c.args.keeper.now) (filed_in g.T.Tree.files g.T.Tree.changes c.args.tree.now) (g.O.Sink.written c.args.out.now) (linked_answer outcomes c.unstarted-in-Err-Memory.result.report (map string_bytes c.args.words.now) (g.K.Keeper.store c.args.keeper.now) (g.T.Tree.files c.args.tree.now)) tops.Memory tt)

pub returns-clause-some : goal.returns-clause-some
returns-clause-some g c keeps tells =
    unstarted_words g.L.Function.tells g.L.Function.outcome (g.K.Keeper.store c.args.keeper.now) (g.T.Tree.files c.args.tree.now) c.unstarted-in-Err-Memory.result.end tops.Memory c.unstarted-in-Err-Memory.ensures.end (map string_bytes c.args.words.now)
    (λ outcomes. linked_answer outcomes c.unstarted-in-Err-Memory.result.report (map string_bytes c.args.words.now) (g.K.Keeper.store c.args.keeper.now) (g.T.Tree.files c.args.tree.now)) _
    (λ outcomes. stops_end (kept g.K.Keeper.store g.K.Keeper.writes c.args.keeper.now) (filed_in g.T.Tree.files g.T.Tree.changes c.args.tree.now) (g.O.Sink.written c.args.out.now) (linked_answer outcomes c.unstarted-in-Err-Memory.result.report (map string_bytes c.args.words.now) (g.K.Keeper.store c.args.keeper.now) (g.T.Tree.files c.args.tree.now)) tops.Memory tt)

pub returns-clause-keeps : goal.returns-clause-keeps
returns-clause-keeps g c =
    let e = c.unstarted-in-Err-Memory.ensures in
    rw e.links (unused_keep g.L.Function.tells _ _ _ (marks_of g.L.Link.jobs g.L.Link.faults c.args.links) _ c.unstarted-in-Err-Memory.result.report tops.Memory refl e.report.0 e.report.1 e.report.2 e.report.3 c.unstarted-in-Err-Memory.result.end e.end)
