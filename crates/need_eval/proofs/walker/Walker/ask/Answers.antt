use Rattle.std.proofs.Common.{◌≤◌, ℕ, List, length, refl, sym, ap, subst, ◌∙◌}
use Rattle.std.proofs.lemmas.Result.{err_from_is_err_and}
use Rattle.object_name.specs.Kind.{kind_of}
use Rattle.object_name.specs.Name.{max_size, name_of}
use Rattle.object_name.proofs.PublicLaws.{eq_by_cmp-name}
use Rattle.thunk_codec.specs.Job.{max_job}
use Rattle.thunk_codec.proofs.PublicLaws.{job_of-keeps_rules, job_of-size}
use Rattle.need_eval.specs.Walking.{walking}
use Rattle.need_eval.proofs.ThunkIsLeft.{thunk-kind, some-output, stops-at-job, stands-at}
use Rattle.need_eval.proofs.walker.Walker.ask.Goals as goal

pub returns-in_err-job-clause-asks : goal.returns-in_err-job-clause-asks
returns-in_err-job-clause-asks g c = λ told.
    let p = err_from_is_err_and c.from_residual.result c.from_residual.ensures.1 in
    let store = g.K.Keeper.store c.args.keeper.now in
    let w = c.args.self.now in
    rw (p.1, p.2) (λ answer writes asked. stops-at-job w store answer writes asked c.requires.innermost.0 c.args.thunk.now c.requires.gathered c.requires.innermost.1 c.in_err-job.field-0.0
    c.requires.small (c.requires.miss told) (c.in_err-job.ensures.reads told (walking w store writes asked) refl))

pub invariant_of-prepared : goal.invariant_of-prepared
invariant_of-prepared g c = record {
  small_text = subst (λ (text : List ℕ). length text ≤ max_size) (sym c.requires.text.text) c.requires.text.rules.size;
  small_job = subst (λ size. size ≤ max_job) (sym (job_of-size c.args.thunk.now c.in_ok-job.job c.in_ok-job.ensures.parts)) c.requires.small;
  rules = job_of-keeps_rules c.args.thunk.now c.in_ok-job.job c.requires.text.rules c.in_ok-job.ensures.parts;
}

pub invariant_of-result : goal.invariant_of-result
invariant_of-result g c = record {
  named = (eq_by_cmp-name c.args.note_name (name_of c.args.text)).1 c.requires.named;
  thunk = ap (λ name. name.kind) c.requires.named ∙ ap kind_of c.requires.text.text ∙ thunk-kind c.args.thunk.now;
  some_output = subst (λ (outputs : List (List ℕ)). 1 ≤ length outputs) (sym c.in_ok-job.ensures.parts.outputs) (some-output c.args.thunk.now c.requires.text.rules).0;
  few_outputs = subst (λ (outputs : List (List ℕ)). length outputs ≤ 64) (sym c.in_ok-job.ensures.parts.outputs) (some-output c.args.thunk.now c.requires.text.rules).1;
}

pub returns-clause-asks : goal.returns-clause-asks
returns-clause-asks g c = λ told.
    stands-at c.args.self.now c.args.self.now (g.K.Keeper.store c.args.keeper.now) c.requires.innermost.0 c.args.thunk.now _ c.requires.gathered c.requires.innermost.1 refl refl refl
    c.requires.small (c.requires.miss told) c.requires.text.text (c.in_ok-job.ensures.reads told)
