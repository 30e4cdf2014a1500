use Rattle.gg_cli.proofs.endings.write_file_line.Goals as goal

pub returns-in-Computed : goal.returns-in-Computed
returns-in-Computed g c = rw c.in-Computed.is (rw (c.text-in-Computed.ensures.text, c.from.ensures) at c.write_line-in-Computed.ensures)
