use Rattle.std.proofs.Common.{◌^◌, ◌∙◌, sym, arith}
use Rattle.object_name.proofs.NumberLemmas.{digits_more, digit_test_at, digits_value_more, too_great}
use Rattle.object_name.proofs.number.read_digits.Goals as goal

pub returns-then-not-is_ascii_digit-clause-only : goal.returns-then-not-is_ascii_digit-clause-only
returns-then-not-is_ascii_digit-clause-only c digits fits =
    let bad = c.if-not-is_ascii_digit.ensures.value ∙ digit_test_at c.args.text.now c.digits.byte-index c.digits-test.true digits in
    cc bad

pub returns-in_err-checked_mul-clause-only : goal.returns-in_err-checked_mul-clause-only
returns-in_err-checked_mul-clause-only c digits fits =
    let over = c.in_err-checked_mul.ensures in
    absurd (too_great c.args.text.now c.digits.byte-index c.digits.value (2 ^ 64) c.digits-test.true c.digits.invariant.value (omega (arith, over)) fits)

pub returns-in_err-value-clause-only : goal.returns-in_err-value-clause-only
returns-in_err-value-clause-only c digits fits =
    let over = c.in_err-value.ensures in
    let mul = c.in_ok-checked_mul.ensures in
    let from = c.from.ensures in
    absurd (too_great c.args.text.now c.digits.byte-index c.digits.value (2 ^ 64) c.digits-test.true c.digits.invariant.value (omega (arith, over, mul.1, from)) fits)

pub digits-preserved : goal.digits-preserved
digits-preserved c =
    let add = c.in_ok-value.ensures in
    let mul = c.in_ok-checked_mul.ensures in
    let from = c.from.ensures in
    let more = digits_value_more c.args.text.now c.digits.byte-index c.digits-test.true in
    record {
      digits = digits_more c.args.text.now c.digits.byte-index c.digits-test.true c.digits.invariant.digits (sym c.if-not-is_ascii_digit.ensures.value);
      small = omega (arith, add.0, add.1);
      value = omega (arith, add.1, mul.1, from, more, c.digits.invariant.value);
    }
