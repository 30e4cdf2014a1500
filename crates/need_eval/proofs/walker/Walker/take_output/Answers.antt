use Rattle.std.proofs.Common.{refl, sym, subst, arith}
use Rattle.std.proofs.lemmas.Result.{err_from_is_err_and}
use Rattle.object_name.specs.Causes.{TriesAtMost}
use Rattle.object_name.proofs.PublicLaws.{tries-none}
use Rattle.need_eval.proofs.NothingFails.{fault-unfailing, answer-unfailing}
use Rattle.need_eval.proofs.TurnsGoOn.{here, onward-no-output}
use Rattle.need_eval.proofs.walker.Walker.take_output.Goals as goal

pub returns-in_err-output-in-Some-clause-turns : goal.returns-in_err-output-in-Some-clause-turns
returns-in_err-output-in-Some-clause-turns g c = λ told.
    let p = err_from_is_err_and c.from_residual.result c.from_residual.ensures.1 in
    let store = g.K.Keeper.store c.args.keeper.now in
    rw (p.1, p.2) (λ answer writes asked. onward-no-output c.args.self.now store answer writes asked c.args.name c.args.index c.requires.next c.in-Some.outputs.now c.in_err-output-in-Some.field-0.0 (sym c.in-Some.ensures.value)
    (rw c.as_slice.ensures at (c.in_err-output-in-Some.ensures.reads (here c.args.self.now store answer writes asked))))

pub returns-in_err-output-in-Some-clause-only_reads : goal.returns-in_err-output-in-Some-clause-only_reads
returns-in_err-output-in-Some-clause-only_reads g c =
    let p = err_from_is_err_and c.from_residual.result c.from_residual.ensures.1 in
    record {
      same = λ told. refl;
      list = λ told. refl;
      later = omega arith;
      tries = λ told.
          rw (p.1, p.2) (subst (TriesAtMost c.args.self.now.retries g.K.Keeper.calls g.K.Keeper.faults c.args.keeper.now c.args.keeper.now)
          (sym (fault-unfailing c.in_err-output-in-Some.field-0.0 c.in_err-output-in-Some.ensures.cause)) (tries-none c.args.self.now.retries g.K.Keeper.calls g.K.Keeper.faults c.args.keeper.now));
      cause = rw (p.1, p.2) (c.in_err-output-in-Some.ensures.cause c.args.self.now.retries (g.K.Keeper.faults c.args.keeper.now) (g.K.Keeper.faults c.args.keeper.now));
    }

pub returns-in_ok-output-in-Some-clause-turns : goal.returns-in_ok-output-in-Some-clause-turns
returns-in_ok-output-in-Some-clause-turns g c = λ told. c.take_known.ensures.turns (g.K.Keeper.store c.args.keeper.now)

pub returns-in_ok-output-in-Some-clause-only_reads : goal.returns-in_ok-output-in-Some-clause-only_reads
returns-in_ok-output-in-Some-clause-only_reads g c = record {
  same = λ told. refl;
  list = λ told. refl;
  later = omega arith;
  tries = λ told.
      subst (TriesAtMost c.args.self.now.retries g.K.Keeper.calls g.K.Keeper.faults c.args.keeper.now c.args.keeper.now) (sym (answer-unfailing c.take_known.result c.take_known.ensures.cause))
      (tries-none c.args.self.now.retries g.K.Keeper.calls g.K.Keeper.faults c.args.keeper.now);
  cause = c.take_known.ensures.cause c.args.self.now.retries (g.K.Keeper.faults c.args.keeper.now) (g.K.Keeper.faults c.args.keeper.now);
}
