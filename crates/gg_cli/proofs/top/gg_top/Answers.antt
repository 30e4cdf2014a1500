use Rattle.std.proofs.Common.{inr}
use Rattle.gg_cli.proofs.TriesAddUp.{kept_tries-said, file_tries-said}
use Rattle.gg_cli.proofs.InputMakesTheAnswer.{leaves_said}
use Rattle.gg_cli.proofs.LinesFitTheStatus.{whole_cause, whole_comes, whole_line, whole_says}
use Rattle.gg_cli.proofs.top.gg_top.Goals as goal

pub returns-in-Err-clause-exact : goal.returns-in-Err-clause-exact
returns-in-Err-clause-exact g c kept files text told = whole_comes _ _ _ _ _ _ _ _ _ _ c.say.ensures c.in-Err.ensures.failed _ (c.in-Err.ensures.ends kept files text told)

pub returns-in-Err-clause-said : goal.returns-in-Err-clause-said
returns-in-Err-clause-said g c kept files text told = whole_says _ _ _ _ _ _ _ _ _ _ c.say.ensures c.in-Err.ensures.failed _ (c.in-Err.ensures.ends kept files text told)

pub returns-in-Err-clause-line : goal.returns-in-Err-clause-line
returns-in-Err-clause-line g c = whole_line _ _ _ _ _ _ _ _ _ _ c.say.ensures c.in-Err.ensures.failed

pub returns-in-Err-clause-cause : goal.returns-in-Err-clause-cause
returns-in-Err-clause-cause g c = whole_cause _ _ _ _ _ _ _ _ _ _ c.say.ensures c.in-Err.ensures.failed _ _ c.in-Err.ensures.cause

pub returns-in-Err-clause-read : goal.returns-in-Err-clause-read
returns-in-Err-clause-read g c reads = leaves_said _ _ (Unit {0}) _ _ _ _ _ _ c.say.ensures (c.in-Err.ensures.read reads)

pub returns-in-Err-clause-kept_tries : goal.returns-in-Err-clause-kept_tries
returns-in-Err-clause-kept_tries g c kept = kept_tries-said _ _ _ _ _ _ c.say.ensures _ _ _ _ _ (c.in-Err.ensures.kept_tries kept)

pub returns-in-Err-clause-file_tries : goal.returns-in-Err-clause-file_tries
returns-in-Err-clause-file_tries g c files = file_tries-said _ _ _ _ _ _ c.say.ensures _ _ _ _ _ (c.in-Err.ensures.file_tries files)

pub returns-in-Ok-clause-exact : goal.returns-in-Ok-clause-exact
returns-in-Ok-clause-exact g c kept files text told = inr (c.in-Ok.ensures.ends kept files text told)
