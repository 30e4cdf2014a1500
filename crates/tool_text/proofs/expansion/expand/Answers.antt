use Rattle.std.proofs.Common.{◌<◌, refl, length, arith}
use Rattle.object_name.specs.Name.{max_size}
use Rattle.tool_text.specs.Views.{macros_of}
use Rattle.tool_text.proofs.ExpandedByPieces.{expand_more, expand_shortens, expands_above}
use Rattle.tool_text.proofs.expansion.expand.Goals as goal

pub returns-then-len-clause-err : goal.returns-then-len-clause-err
returns-then-len-clause-err c = (
  refl,
  expands_above max_size (macros_of c.args.macros.now) _ c.append-in-pieces.new.self c.split_word.result.1.now
      (expand_more (macros_of c.args.macros.now) _ c.pieces.out c.pieces.rest.now c.split_other.result.0.now c.split_other.result.1.now c.split_word.result.0.now c.split_word.result.1.now
      c.replacement.result.now c.append.new.self c.append-in-pieces.new.self
      c.pieces.invariant c.split_other.ensures.run c.split_other.ensures.rest c.split_word.ensures.run c.split_word.ensures.rest c.in_ok-append.ensures.ok c.replacement.ensures c.in_ok-append-2.ensures.ok)
      (let above = c.if-len.true in grind arith),
)

pub pieces-smaller : goal.pieces-smaller
pieces-smaller c =
    let some : 0 < length c.pieces.rest.now = grind arith in
    expand_shortens c.pieces.rest.now c.split_other.result.1.now c.split_word.result.1.now some c.split_other.ensures.rest c.split_word.ensures.rest

pub pieces-preserved : goal.pieces-preserved
pieces-preserved c =
    expand_more (macros_of c.args.macros.now) _ c.pieces.out c.pieces.rest.now c.split_other.result.0.now c.split_other.result.1.now c.split_word.result.0.now c.split_word.result.1.now
    c.replacement.result.now c.append.new.self c.append-in-pieces.new.self
    c.pieces.invariant c.split_other.ensures.run c.split_other.ensures.rest c.split_word.ensures.run c.split_word.ensures.rest c.in_ok-append.ensures.ok c.replacement.ensures c.in_ok-append-2.ensures.ok
