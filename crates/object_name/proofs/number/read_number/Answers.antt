use Rattle.std.proofs.Common.{◌≡◌, ◌<◌, ◌∙◌, sym, ap, arith, inl, inr, ℕ, List, length, get_or}
use Rattle.std.proofs.lemmas.Bool.{eqb-true, eqb-false}
use Rattle.object_name.proofs.NumberLemmas.{length-decimal-pos, decimal_canonical, none_numbered, some_numbered, number_from_digits, decimal_from_read}
use Rattle.object_name.proofs.number.read_number.Goals as goal

pub returns-then-is_empty-clause-only : goal.returns-then-is_empty-clause-only
returns-then-is_empty-clause-only c n fits e =
    let some = length-decimal-pos n fits in
    let same = ap length e in
    let empty = eqb-true (length c.args.text.now) 0 (sym c.if-is_empty.ensures) in
    absurd (omega (arith, some, same, empty))

pub returns-then-is_empty-clause-exact : goal.returns-then-is_empty-clause-exact
returns-then-is_empty-clause-exact c = none_numbered c.args.text.now (returns-then-is_empty-clause-only c)

pub returns-then-text-gt1-clause-only : goal.returns-then-text-gt1-clause-only
returns-then-text-gt1-clause-only c n fits e =
    let first = ap (λ (t : List ℕ). get_or t 0 0) e in
    let one = decimal_canonical n fits (sym first ∙ c.if-text-eq48.true) in
    let same = ap length e in
    absurd (omega (arith, one, same, c.if-text-gt1.true))

pub returns-then-text-gt1-clause-exact : goal.returns-then-text-gt1-clause-exact
returns-then-text-gt1-clause-exact c = none_numbered c.args.text.now (returns-then-text-gt1-clause-only c)

pub returns-clause-exact : goal.returns-clause-exact
returns-clause-exact c =
    let some : 0 < length c.args.text.now = omega (arith, eqb-false (length c.args.text.now) 0 (sym c.if-is_empty.ensures)) in
    let canonical : get_or c.args.text.now 0 0 ≡ 48 → length c.args.text.now ≡ 1 =
    λ zero_first. elim c.else-text-eq48.either [ inl short ↦ omega (arith, short.1, some) | inr other ↦ absurd (other zero_first) ] in
    number_from_digits c.args.text.now c.read_digits.result some canonical c.read_digits.ensures.found c.read_digits.ensures.only c.read_digits.ensures.fits

pub returns-clause-found : goal.returns-clause-found
returns-clause-found c = decimal_from_read c.args.text.now c.read_digits.result (returns-clause-exact c)

pub returns-clause-only : goal.returns-clause-only
returns-clause-only c n fits e = returns-clause-exact c ∙ sym (some_numbered c.args.text.now n fits e)
