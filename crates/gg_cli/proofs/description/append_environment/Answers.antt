use Rattle.std.proofs.Common.{codes}
use Rattle.gg_cli.proofs.DescriptionGrows.{line-grows}
use Rattle.gg_cli.proofs.description.append_environment.Goals as goal

pub returns : goal.returns
returns c = line-grows _ _ _ _ _ (codes "environment") _ c.in_ok-append.ensures.ok c.in_ok-append_pair.ensures c.append-2.ensures.ok
