use Rattle.std.proofs.Common.{arith, add-one}
use Rattle.need_eval.specs.declared.fault.Refusal.TheVariants.{Spent}
use Rattle.need_eval.specs.declared.fault.EvalFault.TheVariants.{Refused}
use Rattle.need_eval.proofs.TurnsGoOn.{here, not-counted, onward-pass, onward-spent}
use Rattle.need_eval.proofs.walker.Walker.pass.Goals as goal

pub returns-then-self-clause-turns : goal.returns-then-self-clause-turns
returns-then-self-clause-turns c = λ store answer writes asked.
    onward-spent c.args.self.now store answer writes asked c.args.name c.args.index c.requires.next c.args.output c.requires.known
    (Refused (Spent c.args.output c.args.self.now.budget)) c.requires.kind
    (not-counted c.args.self.now.budget c.args.output (here c.args.self.now store answer writes asked) c.if-self.true)

pub returns-clause-turns : goal.returns-clause-turns
returns-clause-turns c = λ store answer writes asked.
    onward-pass c.args.self.now store answer writes asked c.args.name c.args.index c.requires.next c.args.output c.requires.known c.pass.new.self.done c.pass.new.self.rest.items _
    c.requires.kind (omega arith) c.pass.ensures.done c.pass.ensures.rest (add-one c.args.self.now.steps)
