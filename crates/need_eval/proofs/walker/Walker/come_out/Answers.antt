use Rattle.std.proofs.Common.{sym, subst, ◌∙◌, arith}
use Rattle.std.proofs.lemmas.Result.{err_from_is_err_and}
use Rattle.blob_store.specs.Store.{Store}
use Rattle.need_eval.specs.StepContracts.{kept_in}
use Rattle.need_eval.specs.TurnContracts.{StopsAt}
use Rattle.need_eval.specs.Walking.{walking, left}
use Rattle.need_eval.proofs.ThunkIsLeft.{stops-too-big, comes-out}
use Rattle.need_eval.proofs.walker.Walker.come_out.Goals as goal

pub returns-then-bytes-gt-MAX_JOB-clause-turns : goal.returns-then-bytes-gt-MAX_JOB-clause-turns
returns-then-bytes-gt-MAX_JOB-clause-turns g c = λ told answer writes asked.
    let store = g.K.Keeper.store c.args.keeper.now in
    rw c.resolved_size-bytes.ensures (stops-too-big c.args.self.now store answer writes asked c.args.name c.args.thunk.now c.requires.gathered c.requires.innermost
    (rw c.resolved_size-bytes.ensures at c.if-bytes-gt-MAX_JOB.true))

pub returns-in_err-known-clause-turns : goal.returns-in_err-known-clause-turns
returns-in_err-known-clause-turns g c = λ told.
    let p = err_from_is_err_and c.from_residual-in_err-known.result c.from_residual-in_err-known.ensures.1 in
    let store = g.K.Keeper.store c.args.keeper.now in
    rw (p.1, p.2) (λ answer writes asked. c.in_err-known.ensures.fault (left answer c.args.self.now (walking c.args.self.now store writes asked)) (kept_in (walking c.args.self.now store writes asked)))

pub returns-in_err-waiting-clause-turns : goal.returns-in_err-waiting-clause-turns
returns-in_err-waiting-clause-turns g c = λ told.
    let p = err_from_is_err_and c.from_residual-in_err-waiting.result c.from_residual-in_err-waiting.ensures.1 in
    rw (p.1, p.2) (subst (λ (store : Store). StopsAt c.args.self.now store c.in_err-waiting.field-0.0) (c.noted.ensures.only_reads.same told) (c.in_err-waiting.ensures.asks told))

pub returns-clause-turns : goal.returns-clause-turns
returns-clause-turns g c = λ told answer writes asked.
    let store = g.K.Keeper.store c.args.keeper.now in
    comes-out c.args.self.now store answer writes asked c.args.name c.args.thunk.now c.requires.gathered c.requires.innermost c.leave.new.self c.in-Some.known (omega (arith, c.if-bytes-gt-MAX_JOB.false, c.resolved_size-bytes.ensures)) (sym (rw (c.text_name-note_name.ensures, c.as_slice.ensures, c.in_ok-text.ensures.text, c.outputs.ensures) at (c.in_ok-known.ensures.found told)) ∙ c.in-Some.is) c.leave.ensures.in_turn.budget c.in_ok-leave.ensures.leaves
