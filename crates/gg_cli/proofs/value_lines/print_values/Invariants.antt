use Rattle.gg_cli.specs.ValueLines.{value_lines}
use Rattle.gg_cli.proofs.LinesAreWrittenInOrder.{Printed}
use Rattle.gg_cli.proofs.value_lines.print_values.Given as goal

abbrev pub invariant-values : goal.invariant-values
invariant-values g l = Printed (value_lines l.names l.items) (value_lines l.name-iterator.a.rest.now l.name-iterator.b.rest.now)
    (g.S.Sink.written l.initial.sink) (g.S.Sink.written l.sink) (g.S.Sink.faults l.initial.sink) (g.S.Sink.faults l.sink)
