use Rattle.std.proofs.Common.{sym, arith}
use Rattle.text_lines.proofs.BlankLemmas.{first_word, only_word}
use Rattle.text_lines.proofs.blanks.first_word.Goals as goal

pub returns-then-is_blank-clause-words : goal.returns-then-is_blank-clause-words
returns-then-is_blank-clause-words c =
    first_word c.args.text.now c.loop-i.i c.requires c.loop-i-test.true (sym c.if-is_blank.ensures) c.loop-i.invariant

pub returns-clause-words : goal.returns-clause-words
returns-clause-words c = only_word c.args.text.now c.requires (λ k below. c.loop-i.invariant k (let end = c.loop-i-test.false in omega arith))
