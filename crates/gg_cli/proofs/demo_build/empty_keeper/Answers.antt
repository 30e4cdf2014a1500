use Rattle.gg_cli.proofs.DemoFilesGrow.{holds_nothing}
use Rattle.gg_cli.proofs.demo_build.empty_keeper.Goals as goal

pub returns : goal.returns
returns c = holds_nothing c.new-4.result _ _ _ _ c.new.ensures c.new-2.ensures c.new-4.ensures
