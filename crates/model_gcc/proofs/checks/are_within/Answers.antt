use Rattle.std.proofs.Common.{arith}
use Rattle.model_gcc.proofs.BytesAreCounted.{more_than_left, taken_away, all_taken}
use Rattle.model_gcc.proofs.checks.are_within.Goals as goal

pub returns-then-size-left : goal.returns-then-size-left
returns-then-size-left c =
    more_than_left c.args.most c.words.left c.args.words.now c.words.rest.now c.word-item.result (omega arith) c.word-item.is c.words.invariant c.len-size.result c.len-size.ensures c.if-size-left.true

pub words-preserved : goal.words-preserved
words-preserved c =
    taken_away c.args.most c.words.left c.args.words.now c.words.rest.now c.word-item.result (omega arith) c.word-item.is c.words.invariant c.len-size.result c.len-size.ensures c.if-size-left.false

pub returns : goal.returns
returns c = all_taken c.args.most c.words.left c.args.words.now c.words.rest.now (omega arith) c.words.invariant
