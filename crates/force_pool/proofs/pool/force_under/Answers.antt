use Rattle.std.proofs.Common.{◌≡◌, ℕ, List, Result, length, ap, sym, ◌∙◌, subst}
use Rattle.thunk_codec.specs.declared.reference.Ref.{Ref}
use Rattle.need_eval.specs.declared.evaluating.Values.{Values}
use Rattle.force_core.specs.declared.event.Event.{Event}
use Rattle.force_pool.specs.declared.fault.ForceFault.{ForceFault}
use Rattle.force_pool.specs.declared.report.Report.{Report}
use Rattle.force_pool.specs.Counting.{starts_of, firsts_of, losses_of}
use Rattle.force_pool.specs.Forcing.{as_evaluated}
use Rattle.force_pool.specs.Links.{Mark, marks_of}
use Rattle.force_pool.specs.Sums.{Sum, Fits, Parts}
use Rattle.force_pool.specs.Walks.{IsEvaluation, as_walked}
use Rattle.force_pool.specs.Concluding.{IsClosing, IsPoolEnd, conclusion}
use Rattle.force_pool.proofs.CallsConclude.{conclusion-evaluates, unbegun-evaluates, pool-concludes, unbegun-concludes}
use Rattle.force_pool.proofs.pool.force_under.Goals as goal

pub returns-in-Err-clause-evaluates : goal.returns-in-Err-clause-evaluates
returns-in-Err-clause-evaluates g c =
    rw c.unbegun.ensures.end (unbegun-evaluates g.K.Keeper.tells g.K.Keeper.store g.K.Keeper.writes g.K.Keeper.faults g.L.Function.tells g.L.Function.outcome c.args.setup.now.budget c.args.setup.now.retries c.args.refs c.args.keeper.now)

pub returns-in-Err-clause-pool : goal.returns-in-Err-clause-pool
returns-in-Err-clause-pool g c =
    let e = c.unbegun.ensures in
    rw (e.end, e.links ∙ c.in-Err.ensures.err) (unbegun-concludes g.L.Function.tells (length c.args.links) c.args.setup.now.retries c.args.setup.now.copies (marks_of g.L.Link.jobs g.L.Link.faults c.args.links) c.unbegun.result.report e.report.0 e.report.1 e.report.2 e.report.3)

pub returns-clause-evaluates : goal.returns-clause-evaluates
returns-clause-evaluates g c =
    let run = c.walked_with_workers-walked in
    let done = c.finish-history in
    let sum = run.result.1 in
    let is : c.concluded.result ≡ conclusion sum.memory sum.all_lost done.result.has_open sum.why run.result.0 = c.concluded.ensures ∙ ap (λ (s : Sum). conclusion s.memory s.all_lost done.result.has_open s.why run.result.0) c.tally.view_is in
    let walked = subst (λ (refs : List Ref). IsEvaluation g.K.Keeper.tells g.K.Keeper.store g.K.Keeper.writes g.K.Keeper.faults g.L.Function.tells g.L.Function.outcome c.args.setup.now.budget c.args.setup.now.retries refs c.args.keeper.now run.new.keeper (as_walked run.result.0)) c.new.ensures run.ensures.evaluates in
    subst (λ (r : Result Values ForceFault). IsEvaluation g.K.Keeper.tells g.K.Keeper.store g.K.Keeper.writes g.K.Keeper.faults g.L.Function.tells g.L.Function.outcome c.args.setup.now.budget c.args.setup.now.retries c.args.refs c.args.keeper.now run.new.keeper (as_evaluated r)) (sym is)
    (conclusion-evaluates g.K.Keeper.tells g.K.Keeper.store g.K.Keeper.writes g.K.Keeper.faults g.L.Function.tells g.L.Function.outcome c.args.setup.now.budget c.args.setup.now.retries c.args.refs c.args.keeper.now run.new.keeper sum.memory sum.all_lost done.result.has_open sum.why run.result.0 walked)

pub returns-clause-pool : goal.returns-clause-pool
returns-clause-pool g c =
    let tells = g.L.Function.tells in
    let run = c.walked_with_workers-walked in
    let done = c.finish-history in
    let sum = run.result.1 in
    let n = c.requires.limits in
    let view = c.tally.view_is in
    let given = marks_of g.L.Link.jobs g.L.Link.faults c.args.links in
    let is : c.concluded.result ≡ conclusion sum.memory sum.all_lost done.result.has_open sum.why run.result.0 = c.concluded.ensures ∙ ap (λ (s : Sum). conclusion s.memory s.all_lost done.result.has_open s.why run.result.0) view in
    let fits_s = subst (λ (l : List Mark). Fits tells g.S.Limits.retries l sum) c.in-Ok.ensures.ok.marks run.ensures.fits in
    let fits = subst (λ (r : ℕ). Fits tells r given sum) n.1 fits_s in
    let closing_w = subst (λ (w : ℕ). IsClosing w g.S.Limits.retries g.S.Limits.copies done.result.history done.result.has_open) n.0 done.ensures.closing in
    let closing_r = subst (λ (r : ℕ). IsClosing (length c.args.links) r g.S.Limits.copies done.result.history done.result.has_open) n.1 closing_w in
    let closing = subst (λ (k : ℕ). IsClosing (length c.args.links) c.args.setup.now.retries k done.result.history done.result.has_open) n.2 closing_r in
    let report : Report = record { starts = c.starts_in.result; replies = c.firsts_in.result; losses = c.losses_in.result; history = done.result.history } in
    let end = pool-concludes tells (length c.args.links) c.args.setup.now.retries c.args.setup.now.copies given report run.result.0 sum done.result.has_open fits closing
    (c.starts_in.ensures ∙ ap (λ (es : List Event). starts_of es) c.as_slice.ensures)
    (c.firsts_in.ensures ∙ ap (λ (es : List Event). firsts_of es) c.as_slice-2.ensures)
    (c.losses_in.ensures ∙ ap (λ (es : List Event). losses_of es) c.as_slice-3.ensures)
    (sym (ap (λ (s : Sum). s.starts) view) ∙ done.ensures.starts)
    (sym (ap (λ (s : Sum). s.losses) view) ∙ done.ensures.losses) in
    subst (λ (back : List Mark). IsPoolEnd tells (length c.args.links) c.args.setup.now.retries c.args.setup.now.copies given back report c.concluded.result) (sym (ap (λ (s : Sum). s.back) view))
    (subst (λ (r : Result Values ForceFault). IsPoolEnd tells (length c.args.links) c.args.setup.now.retries c.args.setup.now.copies given sum.back report r) (sym is) end)

pub finish-history-requires : goal.finish-history-requires
finish-history-requires g c =
    let all = ap (λ (s : Sum). s.parts) c.tally.view_is ∙ c.walked_with_workers-walked.ensures.parts ∙ c.in-Ok.ensures.ok.parts in
    (ap (λ (p : Parts). p.starts) all, ap (λ (p : Parts). p.replies) all, ap (λ (p : Parts). p.losses) all)
