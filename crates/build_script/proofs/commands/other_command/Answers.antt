use Rattle.model_binutils.proofs.PublicLaws.{plans_fit}
use Rattle.build_script.proofs.commands.other_command.Goals as goal

pub build_of-requires : goal.build_of-requires
build_of-requires c = (c.args.words.now, c.in_ok-plan.ensures.found)

pub returns-clause-fits : goal.returns-clause-fits
returns-clause-fits c = rw c.in_ok-made.ensures (plans_fit c.args.words.now c.in_ok-plan.plan c.in_ok-plan.ensures.found)
