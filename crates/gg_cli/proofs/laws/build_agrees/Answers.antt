use Rattle.gg_cli.proofs.CommandsAgree.{commands-agree}
use Rattle.gg_cli.proofs.laws.build_agrees.Goals as goal

pub returns : goal.returns
returns c = commands-agree
