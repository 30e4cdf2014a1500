use Rattle.std.proofs.Common.{◌≡◌, ◌∙◌, sym, ap, refl, true, get_or}
use Rattle.lease_table.specs.declared.row.Row.{Row}
use Rattle.lease_table.specs.Table.{is_idle}
use Rattle.lease_table.specs.Pending.{PendingJobs, row_at}
use Rattle.lease_table.proofs.Found.{first_of, first-found, first-past, first-head, first-empty, jobs-below}
use Rattle.lease_table.proofs.pending.Pending.first_idle.Goals as goal

pub jobs-init : goal.jobs-init
jobs-init c =
    let e : c.as_slice-jobs.result.now ≡ c.args.self.now.jobs = c.as_slice-jobs.ensures.value ∙ ap (λ (p : PendingJobs). p.jobs) c.self.view_is in
    (refl, rw e (jobs-below c.args.self.now c.args.rows.now c.requires))

pub returns-then-is_idle : goal.returns-then-is_idle
returns-then-is_idle c =
    let e : c.as_slice-jobs.result.now ≡ c.args.self.now.jobs = c.as_slice-jobs.ensures.value ∙ ap (λ (p : PendingJobs). p.jobs) c.self.view_is in
    let idle : is_idle (row_at c.args.rows.now (get_or c.jobs.jobs.now 0 0)) ≡ true = ap (λ (r : Row). is_idle r) (sym c.row_of.ensures) ∙ sym c.is_idle.ensures ∙ c.if-is_idle.true in
    let found = first-head c.args.rows.now c.jobs.jobs.now c.in-len1-up.len_at_least idle in
    sym (first-found c.args.self.now c.args.rows.now (get_or c.jobs.jobs.now 0 0) c.requires (ap (first_of c.args.rows.now) (sym e) ∙ sym c.jobs.invariant.0 ∙ found))

pub returns : goal.returns
returns c =
    let e : c.as_slice-jobs.result.now ≡ c.args.self.now.jobs = c.as_slice-jobs.ensures.value ∙ ap (λ (p : PendingJobs). p.jobs) c.self.view_is in
    let none = first-empty c.args.rows.now c.jobs.jobs.now c.in_default.len_below in
    let past = first-past c.args.self.now c.args.rows.now c.requires (ap (first_of c.args.rows.now) (sym e) ∙ sym c.jobs.invariant.0 ∙ none) in
    rw past (rw (← c.self.view_is) c.first_idle_from.ensures)
