use Rattle.std.proofs.Common.{arith}
use Rattle.model_gcc.proofs.StepsAreFew.{makes_first, makes_next, makes_operand, makes_few, makes_all}
use Rattle.model_gcc.proofs.stopping.stop.Goals as goal

pub operands-init : goal.operands-init
operands-init c = rw (c.as_slice-rest.ensures, c.nothing_made-made.ensures) (makes_first c.args.plan.now c.requires.few c.requires.operands)

pub with_operand-requires : goal.with_operand-requires
with_operand-requires c = record {
  few = makes_few c.args.plan.now c.operands.rest.now c.operands.made (omega arith) c.operands.invariant;
  operand = makes_operand c.args.plan.now c.operands.rest.now c.operands.made c.operand-item.result (omega arith) c.operand-item.is c.operands.invariant;
}

pub operands-preserved : goal.operands-preserved
operands-preserved c =
    makes_next c.args.plan.now c.operands.rest.now c.operands.made c.in_ok-more.more c.operand-item.result (omega arith) c.operand-item.is c.operands.invariant c.in_ok-more.ensures

pub returns : goal.returns
returns c = makes_all c.args.plan.now c.operands.rest.now c.operands.made (omega arith) c.operands.invariant
