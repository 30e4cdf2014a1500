use Rattle.gg_cli.proofs.pieces.write_name.Goals as goal

pub returns : goal.returns
returns g c = rw c.spell.ensures.spelled at c.write.ensures
