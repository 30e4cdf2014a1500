use Rattle.std.proofs.Common.{refl, rules}
use Rattle.std.proofs.lemmas.List.Elements.{recursion_from_All}
use Rattle.thunk_codec.specs.Reference.{IsRef}
use Rattle.blob_store.specs.Keeping.{kept}
use Rattle.file_tree.specs.Files.{filed_in}
use Rattle.file_tree.specs.Wanted.{wanted_of}
use Rattle.file_tree.proofs.PublicLaws.{same_filed}
use Rattle.force_pool.specs.Forcing.{as_evaluated}
use Rattle.force_pool.specs.Links.{marks_of}
use Rattle.need_eval.specs.Evaluation.{by_function}
use Rattle.gg_cli.specs.Answer.{wanted_forced_with}
use Rattle.gg_cli.specs.Linked.{linked_text}
use Rattle.gg_cli.specs.LinkedSteps.{conclude_counts}
use Rattle.gg_cli.proofs.StepsMakeTheAnswer.{want_ends}
use Rattle.gg_cli.proofs.LinksMakeTheAnswer.{all_told, evaluated_some, forced_over, holds_values, over-within, unstarted_ends, unstarted_some}
use Rattle.gg_cli.proofs.LinksComeBack.{unused_keep, used_keep}
use Rattle.gg_cli.proofs.linked_command.force_over.Goals as goal

pub returns-in-Err-clause-exact : goal.returns-in-Err-clause-exact
returns-in-Err-clause-exact g c keeps tells told =
    unstarted_ends c.unstarted.result.end _ _ c.unstarted.ensures.end c.from.ensures _ _
    (want_ends (by_function g.L.Function.outcome) (linked_text c.args.report c.unstarted.result.report) c.args.setup.budget c.args.items.now (kept g.K.Keeper.store g.K.Keeper.writes c.args.keeper.now)
    (filed_in g.T.Tree.files g.T.Tree.changes c.args.tree.now) (filed_in g.T.Tree.files g.T.Tree.changes c.wanted.new.tree)
    (same_filed g.T.Tree.files g.T.Tree.changes _ _ (c.wanted.ensures.same tells) (c.wanted.ensures.list tells)) (g.O.Sink.written c.args.out.now) (wanted_of (g.T.Tree.files c.args.tree.now) c.args.items.now) c.in-Err.fault (c.in-Err.ensures.exact tells))

pub returns-in-Err-clause-some : goal.returns-in-Err-clause-some
returns-in-Err-clause-some g c keeps tells =
    unstarted_some c.unstarted.result.end _ _ c.unstarted.ensures.end c.from.ensures g.L.Function.tells g.L.Function.outcome c.args.setup.budget (g.K.Keeper.store c.args.keeper.now) (wanted_of (g.T.Tree.files c.args.tree.now) c.args.items.now)
    (λ outcomes. wanted_forced_with outcomes (linked_text c.args.report c.unstarted.result.report) c.args.setup.budget c.args.items.now (g.K.Keeper.store c.args.keeper.now) (wanted_of (g.T.Tree.files c.args.tree.now) c.args.items.now)) _
    (λ outcomes. want_ends outcomes (linked_text c.args.report c.unstarted.result.report) c.args.setup.budget c.args.items.now (kept g.K.Keeper.store g.K.Keeper.writes c.args.keeper.now)
    (filed_in g.T.Tree.files g.T.Tree.changes c.args.tree.now) (filed_in g.T.Tree.files g.T.Tree.changes c.wanted.new.tree)
    (same_filed g.T.Tree.files g.T.Tree.changes _ _ (c.wanted.ensures.same tells) (c.wanted.ensures.list tells)) (g.O.Sink.written c.args.out.now) (wanted_of (g.T.Tree.files c.args.tree.now) c.args.items.now) c.in-Err.fault (c.in-Err.ensures.exact tells))

pub returns-in-Err-clause-keeps : goal.returns-in-Err-clause-keeps
returns-in-Err-clause-keeps g c =
    let e = c.unstarted.ensures in
    rw e.links (unused_keep g.L.Function.tells _ _ _ (marks_of g.L.Link.jobs g.L.Link.faults c.args.links) _ c.unstarted.result.report c.from.result refl e.report.0 e.report.1 e.report.2 e.report.3 c.unstarted.result.end e.end)

pub force_with_links-end-requires-clause-refs : goal.force_with_links-end-requires-clause-refs
force_with_links-end-requires-clause-refs g c lives inside = recursion_from_All IsRef c.in-Ok.refs c.in-Ok.ensures.refs

pub conclude-end-requires-clause-held : goal.conclude-end-requires-clause-held
conclude-end-requires-clause-held g c keeps =
    holds_values g.L.Function.tells g.L.Function.outcome c.args.setup.budget c.in-Ok.refs (kept g.K.Keeper.store g.K.Keeper.writes c.args.keeper.now) (kept g.K.Keeper.store g.K.Keeper.writes c.force_with_links-end.new.keeper) c.force_with_links-end.result.end
    (c.force_with_links-end.ensures.some keeps)

pub returns-clause-exact : goal.returns-clause-exact
returns-clause-exact g c keeps tells told =
    let before = kept g.K.Keeper.store g.K.Keeper.writes c.args.keeper.now in
    forced_over (by_function g.L.Function.outcome) (linked_text c.args.report c.force_with_links-end.result.report) c.args.setup.budget c.args.items.now before c.in-Ok.refs _ (c.in-Ok.ensures.exact tells)
    (kept g.K.Keeper.store g.K.Keeper.writes c.conclude-end.new.keeper) (filed_in g.T.Tree.files g.T.Tree.changes c.args.tree.now) (filed_in g.T.Tree.files g.T.Tree.changes c.wanted.new.tree) (filed_in g.T.Tree.files g.T.Tree.changes c.conclude-end.new.tree)
    (g.O.Sink.written c.args.out.now) (g.O.Sink.written c.conclude-end.new.out) c.conclude-end.result (same_filed g.T.Tree.files g.T.Tree.changes _ _ (c.wanted.ensures.same tells) (c.wanted.ensures.list tells))
    (c.conclude-end.ensures.ends keeps tells (by_function g.L.Function.outcome) c.args.setup.budget c.in-Ok.refs before
    (c.force_with_links-end.ensures.exact keeps (all_told (by_function g.L.Function.outcome) c.args.setup.budget before.store c.in-Ok.refs _ (c.in-Ok.ensures.exact tells) g.L.Function.tells told)))

pub returns-clause-some : goal.returns-clause-some
returns-clause-some g c keeps tells =
    let before = kept g.K.Keeper.store g.K.Keeper.writes c.args.keeper.now in
    let text = linked_text c.args.report c.force_with_links-end.result.report in
    evaluated_some g.L.Function.tells g.L.Function.outcome c.args.setup.budget c.in-Ok.refs before (kept g.K.Keeper.store g.K.Keeper.writes c.force_with_links-end.new.keeper) (wanted_of (g.T.Tree.files c.args.tree.now) c.args.items.now) (c.in-Ok.ensures.exact tells)
    (as_evaluated c.force_with_links-end.result.end)
    (λ outcomes. wanted_forced_with outcomes text c.args.setup.budget c.args.items.now (g.K.Keeper.store c.args.keeper.now) (wanted_of (g.T.Tree.files c.args.tree.now) c.args.items.now)) _
    c.conclude-end.result (c.force_with_links-end.ensures.some keeps)
    (λ outcomes does. forced_over outcomes text c.args.setup.budget c.args.items.now before c.in-Ok.refs _ (c.in-Ok.ensures.exact tells)
    (kept g.K.Keeper.store g.K.Keeper.writes c.conclude-end.new.keeper) (filed_in g.T.Tree.files g.T.Tree.changes c.args.tree.now) (filed_in g.T.Tree.files g.T.Tree.changes c.wanted.new.tree) (filed_in g.T.Tree.files g.T.Tree.changes c.conclude-end.new.tree)
    (g.O.Sink.written c.args.out.now) (g.O.Sink.written c.conclude-end.new.out) c.conclude-end.result (same_filed g.T.Tree.files g.T.Tree.changes _ _ (c.wanted.ensures.same tells) (c.wanted.ensures.list tells))
    (c.conclude-end.ensures.ends keeps tells outcomes c.args.setup.budget c.in-Ok.refs before does))

pub returns-clause-cause : goal.returns-clause-cause
returns-clause-cause g c =
    over-within c.args.setup.retries (conclude_counts (g.K.Keeper.faults c.args.keeper.now) (g.K.Keeper.faults c.conclude-end.new.keeper) (g.T.Tree.faults c.wanted.new.tree) (g.T.Tree.faults c.conclude-end.new.tree) (g.O.Sink.faults c.args.out.now) (g.O.Sink.faults c.conclude-end.new.out)) _ (record {
      kept_from = search rules;
      kept_to = search rules;
      files_from = c.wanted.ensures.later;
      files_to = search rules;
      out_from = search rules;
      out_to = search rules;
    }) c.conclude-end.result (c.conclude-end.ensures.cause (g.K.Keeper.faults c.args.keeper.now) c.force_with_links-end.ensures.cause)

pub returns-clause-keeps : goal.returns-clause-keeps
returns-clause-keeps g c =
    let e = c.force_with_links-end.ensures in
    used_keep g.L.Function.tells _ _ _ (marks_of g.L.Link.jobs g.L.Link.faults c.args.links) (marks_of g.L.Link.jobs g.L.Link.faults c.force_with_links-end.result.links) c.force_with_links-end.result.report c.force_with_links-end.result.end c.conclude-end.result
    c.conclude-end.ensures.concludes e.report e.links e.numbers e.lost e.open_job e.differs
