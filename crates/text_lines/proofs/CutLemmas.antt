-- What a cut of a text says of the text, and which cuts there are.
use Rattle.std.proofs.Common.{◌≡◌, ℕ, suc, ◌<◌, true, not, eqb, List, [], ◌∷◌, ◌++◌, length, take, drop, get_or, length-append, Some, None, ◌-◌, ◌+◌, refl, sym, ap, subst, ◌∙◌, arith, inl, inr}
use Rattle.std.specs.Prelude.{nat_eq}
use Rattle.std.specs.List.{starts_with, ends_with}
use Rattle.std.proofs.lemmas.Bool.{cases_Bool, and_parts, and_from, eqb-true, eq-eqb, not_from_false, ne_eqb, not-true}
use Rattle.std.proofs.lemmas.Bool.Decides.{Decides-eqb}
use Rattle.std.proofs.lemmas.List.{take_at, drop_at, take-append-drop, length-take, drop_more, get_or-take, take_rest}
use Rattle.std.proofs.lemmas.Option.{same_Some}
use Rattle.std.proofs.lemmas.Slice.Eq.{bytes_eq-Decides, starts_is, ends_is}
use Rattle.text_lines.specs.Maybe.{bind_some, test_some}
use Rattle.text_lines.specs.Cuts.{strip_prefix, before_feed, has_no, with_byte, split_at_byte}

-- ---- a prefix

pub strip_prefix_takes : (prefix bytes rest : List ℕ) → strip_prefix prefix bytes ≡ Some rest → bytes ≡ prefix ++ rest
strip_prefix_takes prefix bytes rest e =
    let a = test_some (starts_with nat_eq bytes prefix) (Some (drop (length prefix) bytes)) rest e in
    let begins : prefix ≡ take (length prefix) bytes = (bytes_eq-Decides prefix (take (length prefix) bytes)).0 a.0 in
    sym (take-append-drop (length prefix) bytes) ∙ ap (λ (v : List ℕ). v ++ drop (length prefix) bytes) (sym begins) ∙ ap (λ (v : List ℕ). prefix ++ v) (same_Some _ rest a.1)

pub strip_prefix_again : (prefix rest : List ℕ) → strip_prefix prefix (prefix ++ rest) ≡ Some rest
strip_prefix_again prefix rest =
    let starts : starts_with nat_eq (prefix ++ rest) prefix ≡ true = (starts_is Decides-eqb (prefix ++ rest) prefix _ refl).1 rest refl in
    rw starts (ap (λ (v : List ℕ). Some v) (drop_at prefix rest (length prefix) refl))

-- ---- a line feed at the end

pub feed_takes : (bytes text : List ℕ) → before_feed bytes ≡ Some text → bytes ≡ text ++ 10 ∷ []
feed_takes bytes text e =
    let a = test_some (ends_with nat_eq bytes (10 ∷ [])) (Some (take (length bytes - 1) bytes)) text e in
    (ends_is Decides-eqb bytes (10 ∷ []) _ refl).0 a.0 ∙ ap (λ (v : List ℕ). v ++ 10 ∷ []) (same_Some _ text a.1)

pub feed_again : (text : List ℕ) → before_feed (text ++ 10 ∷ []) ≡ Some text
feed_again text =
    let len : length (text ++ 10 ∷ []) - 1 ≡ length text = omega (arith, length-append text (10 ∷ [])) in
    let ends : ends_with nat_eq (text ++ 10 ∷ []) (10 ∷ []) ≡ true = (ends_is Decides-eqb (text ++ 10 ∷ []) (10 ∷ []) _ refl).1 text refl in
    rw (ends, len, take_at text (10 ∷ []) (length text) refl) refl

-- ---- up to a byte

pub split_takes : (stop : ℕ) (bytes : List ℕ) (x : List ℕ × List ℕ) → split_at_byte stop bytes ≡ Some x → (bytes ≡ x.0 ++ stop ∷ x.1) × (has_no stop x.0 ≡ true)
unfolding split_at_byte
split_takes stop [] x e = absurd cc
split_takes stop (byte ∷ bytes) x e =
    elim (cases_Bool (eqb byte stop)) [
      | inl ends ↦
          let found : ([], bytes) ≡ x = same_Some _ x (rw ends at e) in
          subst (λ (v : List ℕ × List ℕ). (byte ∷ bytes ≡ v.0 ++ stop ∷ v.1) × (has_no stop v.0 ≡ true)) found (ap (λ (b : ℕ). b ∷ bytes) (eqb-true byte stop ends), refl)
      | inr goes ↦
          let a = bind_some (split_at_byte stop bytes) (λ read. Some (with_byte byte read)) x (rw goes at e) in
          let others = split_takes stop bytes a.0 a.1 in
          subst (λ (v : List ℕ × List ℕ). (byte ∷ bytes ≡ v.0 ++ stop ∷ v.1) × (has_no stop v.0 ≡ true)) (same_Some _ x a.2) (ap (λ (v : List ℕ). byte ∷ v) others.0, and_from _ _ (not_from_false _ goes) others.1)
    ]

pub split_again : (stop : ℕ) (prefix rest : List ℕ) → has_no stop prefix ≡ true → split_at_byte stop (prefix ++ stop ∷ rest) ≡ Some (prefix, rest)
unfolding split_at_byte
split_again stop [] rest h = rw (eq-eqb stop stop refl) refl
split_again stop (byte ∷ prefix) rest h =
    let parts = and_parts (not (eqb byte stop)) (has_no stop prefix) h in
    rw (not-true _ parts.0, split_again stop prefix rest parts.1) refl

split_none : (stop : ℕ) (bytes : List ℕ) → has_no stop bytes ≡ true → split_at_byte stop bytes ≡ None
unfolding split_at_byte
split_none stop [] h = refl
split_none stop (byte ∷ bytes) h =
    let parts = and_parts (not (eqb byte stop)) (has_no stop bytes) h in
    rw (not-true _ parts.0, split_none stop bytes parts.1) refl

pub has_no_from : (stop : ℕ) (text : List ℕ) → ((i : ℕ) → i < length text → get_or text i 0 ≡ stop → ⊥) → has_no stop text ≡ true
has_no_from stop [] h = refl
has_no_from stop (byte ∷ text) h = and_from _ _ (not_from_false _ (ne_eqb byte stop (h 0 (omega arith)))) (has_no_from stop text (λ i lt. h (suc i) (omega (arith, lt))))

-- the first stop byte, by its index
pub split_found : (stop : ℕ) (bytes : List ℕ) (i : ℕ) → i < length bytes → get_or bytes i 0 ≡ stop → ((k : ℕ) → k < i → get_or bytes k 0 ≡ stop → ⊥)
    → split_at_byte stop bytes ≡ Some (take i bytes, take (length bytes - (i + 1)) (drop (i + 1) bytes))
split_found stop bytes i lt at before =
    let cut : bytes ≡ take i bytes ++ stop ∷ drop (i + 1) bytes = sym (take-append-drop i bytes) ∙ ap (λ (v : List ℕ). take i bytes ++ v) (drop_more bytes i 0 lt ∙ ap (λ (b : ℕ). b ∷ drop (i + 1) bytes) at) in
    let none : has_no stop (take i bytes) ≡ true = has_no_from stop (take i bytes) (λ k h. let kl : k < i = omega (arith, h, length-take i bytes) in λ e. before k kl (sym (get_or-take i bytes k 0 kl) ∙ e)) in
    ap (split_at_byte stop) cut ∙ split_again stop (take i bytes) (drop (i + 1) bytes) none ∙ ap (λ (v : List ℕ). Some (take i bytes, v)) (sym (take_rest bytes (i + 1)))

pub split_missed : (stop : ℕ) (bytes : List ℕ) → ((k : ℕ) → k < length bytes → get_or bytes k 0 ≡ stop → ⊥) → split_at_byte stop bytes ≡ None
split_missed stop bytes none = split_none stop bytes (has_no_from stop bytes none)
