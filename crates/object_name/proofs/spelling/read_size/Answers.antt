use Rattle.std.proofs.Common.{sym, ap, ◌∙◌, Some, arith}
use Rattle.std.proofs.lemmas.Slice.Eq.{bytes_eq-Decides}
use Rattle.object_name.proofs.SpellingLemmas.{size_decoded, from_be_bytes-size, size_spelled_again}
use Rattle.object_name.proofs.spelling.read_size.Goals as goal

pub returns-then-is_err-clause-only : goal.returns-then-is_err-clause-only
returns-then-is_err-clause-only c n small is =
    let decoded = size_decoded c.args.text.now c.decode_to_slice.new.out n c.decode_to_slice.result c.decode_to_slice.ensures.value is in
    let bad = rw decoded.0 at c.if-is_err.ensures.value in
    cc bad

pub returns-then-size-gt-MAX_SIZE-clause-only : goal.returns-then-size-gt-MAX_SIZE-clause-only
returns-then-size-gt-MAX_SIZE-clause-only c n small is =
    let decoded = size_decoded c.args.text.now c.decode_to_slice.new.out n c.decode_to_slice.result c.decode_to_slice.ensures.value is in
    let same = from_be_bytes-size c.decode_to_slice.new.out c.from_be_bytes-size.result n small decoded.1 c.from_be_bytes-size.ensures in
    absurd (omega (arith, same, small, c.if-size-gt-MAX_SIZE.true))

pub returns-then-ne-clause-only : goal.returns-then-ne-clause-only
returns-then-ne-clause-only c n small is =
    let decoded = size_decoded c.args.text.now c.decode_to_slice.new.out n c.decode_to_slice.result c.decode_to_slice.ensures.value is in
    let same = from_be_bytes-size c.decode_to_slice.new.out c.from_be_bytes-size.result n small decoded.1 c.from_be_bytes-size.ensures in
    let again = size_spelled_again c.args.text.now c.spell_size.new.into c.from_be_bytes-size.result n same is c.spell_size.ensures in
    let eq = (bytes_eq-Decides c.args.text.now c.as_slice.result.now).1 (again ∙ sym c.as_slice.ensures) in
    let bad = rw eq at c.if-ne.ensures in
    cc bad

pub returns-clause-only : goal.returns-clause-only
returns-clause-only c n small is =
    let decoded = size_decoded c.args.text.now c.decode_to_slice.new.out n c.decode_to_slice.result c.decode_to_slice.ensures.value is in
    ap Some (from_be_bytes-size c.decode_to_slice.new.out c.from_be_bytes-size.result n small decoded.1 c.from_be_bytes-size.ensures)
