use Rattle.gg_cli.proofs.endings.write_tool_line.Goals as goal

pub returns : goal.returns
returns g c = rw (c.from.ensures, c.from-2.ensures) at c.write_line.ensures
