-- Paths are short, and a text that is one component is a path.
use Rattle.std.proofs.Common.{◌≡◌, ◌≤◌, ℕ, ◌==◌, true, false, not, ◌&&◌, leb, List, [], ◌∷◌, length, refl, sym, ap, arith}
use Rattle.std.specs.Prelude.{bytes_eq, codes}
use Rattle.std.specs.List.{list_all}
use Rattle.std.specs.Option.{option_map}
use Rattle.std.proofs.lemmas.Bool.{and_parts, and_from, leb-true, le-leb, ne_eqb}
use Rattle.thunk_codec.specs.Components.{is_plain_byte, is_plain, is_component}
use Rattle.thunk_codec.specs.Path.{max_path, is_path, joined}
use Rattle.thunk_codec.specs.Thunk.{is_digit}
use Rattle.thunk_codec.proofs.Folders.{path_parts}
use Rattle.thunk_codec.proofs.Paths.{bytes_eq-not, joined_again, short_path, path_is_path}

-- a path has at most 1,024 bytes
pub path_length : (path : List ℕ) → is_path path ≡ true → length path ≤ max_path
path_length path h = (path_parts path h).short

-- a component that is no longer is a path
pub component_is_path : (piece : List ℕ) → is_component piece ≡ true → length piece ≤ max_path → is_path piece ≡ true
component_is_path piece h short =
    let some = bytes_eq-not piece [] (and_parts (not (bytes_eq piece [])) _ h).0 in
    let again = joined_again (piece ∷ []) (piece ∷ []) refl (and_from _ _ h refl) some in
    path_is_path piece piece (short_path piece piece (sym (ap (option_map joined) again)) some short)

-- bytes that a component may have are one, unless they begin with `.`
pub plain_component : (first : ℕ) (others : List ℕ) → is_plain (first ∷ others) ≡ true → (first == 46) ≡ false → is_component (first ∷ others) ≡ true
plain_component first others plain differs =
    and_from _ _ refl (and_from _ _ (ap (λ b. not (b && bytes_eq others [])) differs) (and_from _ _ (ap (λ b. not (b && bytes_eq others (46 ∷ []))) differs) plain))

digit_plain : (byte : ℕ) → is_digit byte ≡ true → is_plain_byte byte ≡ true
digit_plain byte h =
    let parts = and_parts (leb 48 byte) (leb byte 57) h in
    let low = leb-true 48 byte parts.0 in
    let high = leb-true byte 57 parts.1 in
    and_from _ _ (and_from _ _ (le-leb 32 byte (omega (arith, low))) (le-leb byte 126 (omega (arith, high)))) (ap not (ne_eqb byte 47 (λ is. absurd (omega (arith, low, is)))))

digits_plain : (digits : List ℕ) → list_all is_digit digits ≡ true → is_plain digits ≡ true
digits_plain [] h = refl
digits_plain (digit ∷ digits) h =
    let parts = and_parts (is_digit digit) (list_all is_digit digits) h in
    and_from _ _ (digit_plain digit parts.0) (digits_plain digits parts.1)

-- decimal digits are a path
pub digits_are_path : (digits : List ℕ) → (digits ≡ [] → ⊥) → list_all is_digit digits ≡ true → length digits ≤ max_path → is_path digits ≡ true
digits_are_path [] some h short = absurd (some refl)
digits_are_path (first ∷ others) some h short =
    let digit = (and_parts (is_digit first) (list_all is_digit others) h).0 in
    let low = leb-true 48 first (and_parts (leb 48 first) (leb first 57) digit).0 in
    component_is_path (first ∷ others) (plain_component first others (digits_plain (first ∷ others) h) (ne_eqb first 46 (λ is. omega (arith, low, is)))) short

-- the names of the inputs and outputs that tools take most
pub out_is_path : is_path (codes "out") ≡ true
out_is_path = component_is_path (codes "out") refl (omega arith)

pub in_is_path : is_path (codes "in") ≡ true
in_is_path = component_is_path (codes "in") refl (omega arith)
