use Rattle.std.proofs.Common.{inl, inr}
use Rattle.gg_cli.specs.ValueLines.{value_lines}
use Rattle.gg_cli.proofs.LinesAreWrittenInOrder.{Printed-more, Printed-stop, Printed-all, value_lines-end}
use Rattle.gg_cli.proofs.value_lines.print_values.Goals as goal

pub values-preserved : goal.values-preserved
values-preserved g c = let next = c.in-Some.ensures.steps in
    Printed-more _ c.next.new.self.a.rest.now _ c.next.new.self.b.rest.now c.in-Some.name.now c.in-Some.item.now (value_lines c.args.names.now c.args.items.now) _ _ _ _ _ _ next.0 next.1 c.values.invariant c.print_value.ensures c.in_ok-print_value.was

pub returns-in_err-print_value : goal.returns-in_err-print_value
returns-in_err-print_value g c = let next = c.in-Some.ensures.steps in
    Printed-stop _ c.next.new.self.a.rest.now _ c.next.new.self.b.rest.now c.in-Some.name.now c.in-Some.item.now (value_lines c.args.names.now c.args.items.now) _ _ _ _ _ _ next.0 next.1 c.values.invariant c.print_value.ensures c.in_err-print_value.was c.from_residual.ensures

pub returns : goal.returns
returns g c = Printed-all _ c.values.invariant (value_lines-end _ _ (elim c.in-None.ensures.steps [ inl h ↦ inl h.1.0 | inr h ↦ inr h.1.0 ]))
