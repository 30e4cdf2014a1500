use Rattle.std.proofs.Common.{sym, ap, ◌∙◌}
use Rattle.std.proofs.lemmas.Result.{err_from_is_err_and}
use Rattle.need_eval.proofs.ReadingStops.{job_of-function, job_of-inputs, job_of-gives}
use Rattle.need_eval.proofs.jobs.job_of.Goals as goal

pub returns-in_err-function-clause-reads : goal.returns-in_err-function-clause-reads
returns-in_err-function-clause-reads g c = λ told s here.
    let p = err_from_is_err_and c.from_residual.result c.from_residual.ensures.1 in
    let function = rw (c.name.ensures, c.function.ensures.function) at (c.in_err-function.ensures.reads told s here) in
    rw (p.1, p.2) (job_of-function c.args.thunk.now s c.in_err-function.field-0.0 function)

pub returns-in_err-inputs-clause-reads : goal.returns-in_err-inputs-clause-reads
returns-in_err-inputs-clause-reads g c = λ told s here.
    let p = err_from_is_err_and c.from_residual-in_err-inputs.result c.from_residual-in_err-inputs.ensures.1 in
    let function = rw (c.name.ensures, c.function.ensures.function) at (c.in_ok-function.ensures.reads told s here) in
    let inputs = rw c.inputs.ensures at (c.in_err-inputs.ensures.reads told s (here ∙ sym (c.object.ensures.only_reads.same told))) in
    rw (p.1, p.2) (job_of-inputs c.args.thunk.now s c.in_ok-function.function c.in_err-inputs.field-0.0 function inputs)

pub returns-clause-reads : goal.returns-clause-reads
returns-clause-reads g c = λ told s here.
    let function = rw (c.name.ensures, c.function.ensures.function) at (c.in_ok-function.ensures.reads told s here) in
    let inputs = rw c.inputs.ensures at (c.in_ok-inputs.ensures.reads told s (here ∙ sym (c.object.ensures.only_reads.same told))) in
    job_of-gives c.args.thunk.now s
    (record { function = c.in_ok-function.function; args = c.in_ok-args.args; envs = c.in_ok-envs.envs; inputs = c.in_ok-inputs.inputs; outputs = c.in_ok-outputs.outputs })
    function inputs (c.in_ok-args.ensures ∙ c.args-2.ensures) (c.in_ok-envs.ensures ∙ c.envs.ensures) (c.in_ok-outputs.ensures ∙ c.outputs.ensures)

pub returns-clause-parts : goal.returns-clause-parts
returns-clause-parts g c = record {
  function = ap (λ name. name.size) (rw (c.name.ensures, c.function.ensures.function) at c.in_ok-function.ensures.named);
  args = c.in_ok-args.ensures ∙ c.args-2.ensures;
  envs = c.in_ok-envs.ensures ∙ c.envs.ensures;
  inputs = rw c.inputs.ensures at c.in_ok-inputs.ensures.sized;
  outputs = c.in_ok-outputs.ensures ∙ c.outputs.ensures;
}
