use Rattle.std.proofs.Common.{◌∙◌, ◌++◌}
use Rattle.gg_cli.specs.Description.{environment_line}
use Rattle.gg_cli.proofs.DescriptionGrows.{parts-more}
use Rattle.gg_cli.proofs.description.append_environments.Goals as goal

pub envs-preserved : goal.envs-preserved
envs-preserved c =
    parts-more environment_line c.args.text.now c.args.envs.now c.envs.text c.append_environment.new.text c.envs.key-index c.envs-item.result c.envs-test.true c.envs-item.is c.envs.invariant
    (c.in_ok-append_environment.ensures ∙ (λ j. c.envs.text ++ environment_line (c.as_slice.ensures j, c.as_slice-in-envs.ensures j)))
