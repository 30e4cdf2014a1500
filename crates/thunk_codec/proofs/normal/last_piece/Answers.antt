use Rattle.std.proofs.Common.{sym, ◌∙◌, arith}
use Rattle.thunk_codec.proofs.Folders.{no_slash_behind, no_slash_before, after_last_at, after_last_none, rest_from}
use Rattle.thunk_codec.proofs.normal.last_piece.Goals as goal

pub bytes-init : goal.bytes-init
bytes-init c = no_slash_behind c.args.text.now

pub bounds-text-start : goal.bounds-text-start
bounds-text-start c = let within = c.bytes.invariant.within in let some = c.bytes-test.true in omega arith

pub slice_bounds-result-count : goal.slice_bounds-result-count
slice_bounds-result-count c = c.bytes.invariant.within

pub returns-then-text-start-eq47 : goal.returns-then-text-start-eq47
returns-then-text-start-eq47 c = rest_from c.args.text.now c.bytes.start ∙ sym (after_last_at c.args.text.now c.bytes.start c.bytes.invariant (λ _. c.if-text-start-eq47.true))

pub bytes-preserved : goal.bytes-preserved
bytes-preserved c = no_slash_before c.args.text.now c.bytes.start c.bytes-test.true c.if-text-start-eq47.false c.bytes.invariant

pub returns : goal.returns
returns c = sym (after_last_none c.args.text.now c.bytes.start (let none = c.bytes-test.false in omega arith) c.bytes.invariant)
