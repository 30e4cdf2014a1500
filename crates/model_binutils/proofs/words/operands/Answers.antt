use Rattle.std.proofs.Common.{[], arith}
use Rattle.model_binutils.specs.Words.{operands_after}
use Rattle.model_binutils.proofs.RefusedOperands.{operand_refused}
use Rattle.model_binutils.proofs.words.operands.Goals as goal

pub returns-in_err-path : goal.returns-in_err-path
returns-in_err-path c =
    operand_refused c.args.wanted c.words.paths c.words.place c.words.rest.now c.word-item.result (operands_after c.args.wanted [] c.args.at c.args.words.now)
    (omega arith) c.word-item.is c.words.invariant _ (rw c.as_slice.ensures at c.in_err-path.ensures) _ c.from_residual.ensures
