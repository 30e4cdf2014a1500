use Rattle.gg_cli.proofs.DescriptionGrows.{outputs-more}
use Rattle.gg_cli.proofs.description.append_outputs.Goals as goal

pub outputs-preserved : goal.outputs-preserved
outputs-preserved c =
    outputs-more c.args.text.now c.args.outputs.now c.outputs.text c.append_output.new.text c.outputs.index c.index-outputs-index.result c.text.result.now c.outputs-test.true c.index-outputs-index.is c.text.ensures.text c.outputs.invariant c.in_ok-append_output.ensures
