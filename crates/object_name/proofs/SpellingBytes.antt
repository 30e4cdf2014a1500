-- What each byte of a spelling passes.
use Rattle.std.proofs.Common.{◌≡◌, ℕ, zero, suc, ◌/◌, ◌%◌, ◌*◌, ◌+◌, Bool, true, not, List, [], ◌∷◌, get_or, refl, ◌∙◌}
use Rattle.std.specs.Prelude.{◌==◌}
use Rattle.std.specs.List.{list_all}
use Rattle.std.specs.Int.{w32, to_be_bytes}
use Rattle.std.proofs.lemmas.Bool.{and_parts, and_from}
use Rattle.std.proofs.lemmas.List.Folds.{list_all-append}
use Rattle.base64.specs.GeneralPurpose.{encode_of}
use Rattle.base64.specs.Engines.{url_safe_no_pad}
use Rattle.base64.specs.Rfc4648.{encode_symbols}
use Rattle.hex.specs.Hex.{encode_with, lower_digits}
use Rattle.object_name.specs.declared.kind.Kind.{Kind}
use Rattle.object_name.specs.declared.kind.Kind.TheVariants.{Value, Thunk}
use Rattle.object_name.specs.Kind.{letter_of_kind}
use Rattle.object_name.specs.Name.{ObjectName, spelling}

-- a read of a table passes what its entries pass, and 0
read_passes : (p : ℕ → Bool) (t : List ℕ) (i : ℕ) → p 0 ≡ true → list_all p t ≡ true → p (get_or t i 0) ≡ true
read_passes p [] i none h = none
read_passes p (b ∷ t) zero none h = (and_parts (p b) (list_all p t) h).0
read_passes p (b ∷ t) (suc i) none h = read_passes p t i none (and_parts (p b) (list_all p t) h).1

encode_symbols-passes : (p : ℕ → Bool) (t m : List ℕ) → p 0 ≡ true → list_all p t ≡ true → list_all p (encode_symbols t m) ≡ true
unfolding encode_symbols
encode_symbols-passes p t [] none h = refl
encode_symbols-passes p t (a ∷ []) none h =
    and_from _ _ (read_passes p t (a / 4) none h) (and_from _ _ (read_passes p t (a % 4 * 16) none h) refl)
encode_symbols-passes p t (a ∷ b ∷ []) none h =
    and_from _ _ (read_passes p t (a / 4) none h) (and_from _ _ (read_passes p t (a % 4 * 16 + b / 16) none h) (and_from _ _ (read_passes p t (b % 16 * 4) none h) refl))
encode_symbols-passes p t (a ∷ b ∷ c ∷ rest) none h =
    and_from _ _ (read_passes p t (a / 4) none h) (and_from _ _ (read_passes p t (a % 4 * 16 + b / 16) none h)
    (and_from _ _ (read_passes p t (b % 16 * 4 + c / 64) none h) (and_from _ _ (read_passes p t (c % 64) none h) (encode_symbols-passes p t rest none h))))

encode_with-passes : (p : ℕ → Bool) (t m : List ℕ) → p 0 ≡ true → list_all p t ≡ true → list_all p (encode_with t m) ≡ true
unfolding encode_with
encode_with-passes p t [] none h = refl
encode_with-passes p t (b ∷ rest) none h =
    and_from _ _ (read_passes p t (b / 16) none h) (and_from _ _ (read_passes p t (b % 16) none h) (encode_with-passes p t rest none h))

letter_passes : (p : ℕ → Bool) (kind : Kind) → p 86 ≡ true → p 84 ≡ true → p (letter_of_kind kind) ≡ true
letter_passes p Value value thunk = value
letter_passes p Thunk value thunk = thunk

-- no byte of a spelling is a line feed
pub spelling_without_feed : (n : ObjectName) → list_all (λ byte. not (byte == 10)) (spelling n) ≡ true
unfolding spelling
spelling_without_feed n =
    let p : ℕ → Bool = λ byte. not (byte == 10) in
    let digest : list_all p (encode_of url_safe_no_pad n.digest) ≡ true =
    list_all-append p (encode_symbols url_safe_no_pad.encode_table n.digest) [] ∙ and_from _ _ (encode_symbols-passes p url_safe_no_pad.encode_table n.digest refl refl) refl in
    and_from _ _ (letter_passes p n.kind refl refl)
    (list_all-append p (encode_of url_safe_no_pad n.digest) (encode_with lower_digits (to_be_bytes w32 n.size))
    ∙ and_from _ _ digest (encode_with-passes p lower_digits (to_be_bytes w32 n.size) refl refl))
