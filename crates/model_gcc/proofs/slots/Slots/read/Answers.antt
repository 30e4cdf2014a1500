use Rattle.std.proofs.Common.{arith}
use Rattle.model_gcc.specs.Slots.{no_words, with_words}
use Rattle.model_gcc.proofs.RefusalsStay.{word_refused}
use Rattle.model_gcc.proofs.slots.Slots.read.Goals as goal

pub returns-in_err-more : goal.returns-in_err-more
returns-in_err-more c =
    word_refused c.words.rest.now c.word-item.result c.words.given (with_words c.args.words.now no_words) (omega arith) c.word-item.is c.words.invariant _ (rw c.as_slice.ensures at c.in_err-more.ensures) _ c.from_residual.ensures
