use Rattle.std.proofs.Common.{arith}
use Rattle.build_script.specs.LineWords.{no_bytes, with_bytes}
use Rattle.build_script.proofs.RefusedBytes.{byte_refused}
use Rattle.build_script.proofs.line_words.LineWords.read.Goals as goal

pub returns-in_err-more : goal.returns-in_err-more
returns-in_err-more c =
    byte_refused c.bytes.rest.now c.bytes.given (with_bytes c.args.line.now no_bytes) (omega arith) c.bytes.invariant _ (rw c.move_of-step.ensures at c.in_err-more.ensures) _ c.from_residual.ensures
