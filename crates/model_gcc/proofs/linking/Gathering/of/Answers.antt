use Rattle.std.proofs.Common.{arith}
use Rattle.model_gcc.proofs.StepsAreFew.{gathers_first, gathers_next, gathers_operand, gathers_few, gathers_all}
use Rattle.model_gcc.proofs.linking.Gathering.of.Goals as goal

pub operands-init : goal.operands-init
operands-init c = rw (c.as_slice-rest.ensures, c.new-given.ensures) (gathers_first c.args.plan.now c.requires.few c.requires.operands)

pub with_input-requires : goal.with_input-requires
with_input-requires c = record {
  few = gathers_few c.args.plan.now c.operands.rest.now c.operands.given (omega arith) c.operands.invariant;
  operand = gathers_operand c.args.plan.now c.operands.rest.now c.operands.given c.operand-item.result (omega arith) c.operand-item.is c.operands.invariant;
  target = c.requires.target;
}

pub operands-preserved : goal.operands-preserved
operands-preserved c =
    gathers_next c.args.plan.now c.operands.rest.now c.operands.given c.in_ok-more.more c.operand-item.result (omega arith) c.operand-item.is c.operands.invariant c.in_ok-more.ensures

pub returns : goal.returns
returns c = record {
  same = gathers_all c.args.plan.now c.operands.rest.now c.operands.given (omega arith) c.operands.invariant;
  few = let few = c.operands.invariant.few in omega (arith, few);
}
