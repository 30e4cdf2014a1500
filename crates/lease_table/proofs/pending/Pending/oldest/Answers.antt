use Rattle.std.proofs.Common.{◌≡◌, ◌∙◌, sym, ap, refl, None}
use Rattle.lease_table.specs.Pending.{PendingJobs}
use Rattle.lease_table.proofs.Found.{best_of, best-found, best-empty, jobs-below}
use Rattle.lease_table.proofs.pending.Pending.oldest.Goals as goal

pub jobs-init : goal.jobs-init
jobs-init c =
    let e : c.as_slice-jobs.result.now ≡ c.args.self.now.jobs = c.as_slice-jobs.ensures.value ∙ ap (λ (p : PendingJobs). p.jobs) c.self.view_is in
    (refl, rw e (jobs-below c.args.self.now c.args.rows.now c.requires.pending))

pub returns-in-Some : goal.returns-in-Some
returns-in-Some c =
    let e : c.as_slice-jobs.result.now ≡ c.args.self.now.jobs = c.as_slice-jobs.ensures.value ∙ ap (λ (p : PendingJobs). p.jobs) c.self.view_is in
    let all = sym (best-found c.args.self.now c.args.rows.now c.args.copies c.requires.pending c.requires.busy) ∙ ap (best_of c.args.rows.now c.args.copies None) (sym e) ∙ sym c.jobs.invariant.0
    ∙ best-empty c.args.rows.now c.args.copies c.jobs.best c.jobs.jobs.now c.in_default.len_below in
    rw (all, c.in-Some.is) refl

pub returns-in-None : goal.returns-in-None
returns-in-None c =
    let e : c.as_slice-jobs.result.now ≡ c.args.self.now.jobs = c.as_slice-jobs.ensures.value ∙ ap (λ (p : PendingJobs). p.jobs) c.self.view_is in
    let all = sym (best-found c.args.self.now c.args.rows.now c.args.copies c.requires.pending c.requires.busy) ∙ ap (best_of c.args.rows.now c.args.copies None) (sym e) ∙ sym c.jobs.invariant.0
    ∙ best-empty c.args.rows.now c.args.copies c.jobs.best c.jobs.jobs.now c.in_default.len_below in
    rw (all, c.in-None.is) refl
