use Rattle.std.proofs.Common.{arith}
use Rattle.text_lines.proofs.BlankLemmas.{no_word, begins_a_word, word_after_blanks}
use Rattle.text_lines.proofs.blanks.next_word.Goals as goal

pub returns-then-is_empty : goal.returns-then-is_empty
returns-then-is_empty c = no_word c.args.line.now c.skip_blanks-text.result.now c.skip_blanks-text.ensures (grind arith)

pub first_word-requires : goal.first_word-requires
first_word-requires c = begins_a_word c.args.line.now c.skip_blanks-text.result.now c.skip_blanks-text.ensures (grind arith)

pub returns : goal.returns
returns c =
    word_after_blanks c.args.line.now c.skip_blanks-text.result.now c.first_word.result.0.now c.first_word.result.1.now c.skip_blanks-text.ensures c.first_word.ensures.words c.first_word.ensures.shorter
