use Rattle.gg_cli.proofs.describe_command.read_thunk.Goals as goal

pub returns-clause-cause : goal.returns-clause-cause
returns-clause-cause g c = c.thunk_of.ensures.cause _ _ _
