-- The paths of inputs are paths.
use Rattle.std.proofs.Common.{◌≡◌, ℕ, ◌/◌, true, not, refl, ap, arith}
use Rattle.std.specs.Prelude.{codes}
use Rattle.std.proofs.lemmas.Bool.{and_from, le-leb, ne_eqb}
use Rattle.thunk_codec.specs.Components.{is_plain_byte, is_plain}
use Rattle.thunk_codec.specs.Path.{is_path}
use Rattle.thunk_codec.proofs.PublicLaws.{component_is_path, plain_component}
use Rattle.build_plan.specs.Numbered.{last_digit, four_digits}
use Rattle.model_binutils.specs.PlanOf.{member_input}

digit_plain : (number : ℕ) → is_plain_byte (last_digit number) ≡ true
digit_plain number =
    and_from _ _ (and_from _ _ (le-leb 32 (last_digit number) (omega arith)) (le-leb (last_digit number) 126 (omega arith))) (ap not (ne_eqb (last_digit number) 47 (λ is. omega (arith, is))))

digits_plain : (number : ℕ) → is_plain (four_digits number) ≡ true
digits_plain number =
    and_from _ _ (digit_plain (number / 1000)) (and_from _ _ (digit_plain (number / 100)) (and_from _ _ (digit_plain (number / 10)) (and_from _ _ (digit_plain number) refl)))

pub old_is_path : is_path (codes "old") ≡ true
old_is_path = component_is_path (codes "old") refl (omega arith)

-- the input of a member
pub member_is_path : (number : ℕ) → is_path (member_input number) ≡ true
member_is_path number =
    component_is_path (member_input number) (plain_component 109 (four_digits number) (and_from _ _ refl (digits_plain number)) refl) (omega arith)
