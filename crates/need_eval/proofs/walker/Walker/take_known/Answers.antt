use Rattle.std.proofs.Common.{sym, ◌∙◌}
use Rattle.need_eval.proofs.TurnsGoOn.{onward-known}
use Rattle.need_eval.proofs.walker.Walker.take_known.Goals as goal

pub returns-in_ok-gather-in-Value-clause-turns : goal.returns-in_ok-gather-in-Value-clause-turns
returns-in_ok-gather-in-Value-clause-turns c = λ store answer writes asked.
    onward-known c.args.self.now store answer writes asked c.args.name c.args.index c.requires.next c.args.output c.requires.known c.gather.new.self.done c.gather.new.self.rest.items
    (sym c.kind.ensures.kind ∙ c.in-Value.is) c.in_ok-gather-in-Value.ensures.done c.in_ok-gather-in-Value.ensures.rest
