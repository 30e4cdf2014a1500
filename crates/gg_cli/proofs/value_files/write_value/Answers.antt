use Rattle.std.proofs.Common.{rules, sym, subst}
use Rattle.object_name.specs.Causes.{TriesAtMost}
use Rattle.gg_cli.proofs.TriesAddUp.{filed-unkept}
use Rattle.gg_cli.proofs.FilesAreWrittenInOrder.{FilingCause-earlier}
use Rattle.gg_cli.proofs.value_files.write_value.Goals as goal

pub returns-in-Ok-Some-clause-cause : goal.returns-in-Ok-Some-clause-cause
returns-in-Ok-Some-clause-cause g c =
    let kept = g.K.Keeper.faults c.fetch.new.keeper in
    FilingCause-earlier c.args.retries (g.K.Keeper.faults c.args.keeper.now) kept kept _ _ _ c.write_bytes.result (search rules) (search rules) (c.write_bytes.ensures.cause kept)

pub returns-in-Ok-Some-clause-kept_tries : goal.returns-in-Ok-Some-clause-kept_tries
returns-in-Ok-Some-clause-kept_tries g c told =
    subst (TriesAtMost c.args.retries g.K.Keeper.calls g.K.Keeper.faults c.args.keeper.now c.fetch.new.keeper) (sym (filed-unkept _ _ _ c.write_bytes.result (c.write_bytes.ensures.cause 0))) (c.in-Ok-Some.ensures.tries told)
