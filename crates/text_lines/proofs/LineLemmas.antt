-- The first line by the index of the first line feed.
use Rattle.std.proofs.Common.{◌≡◌, ℕ, zero, suc, ◌<◌, ◌-◌, ◌+◌, List, [], ◌∷◌, length, take, drop, get_or, refl, sym, ap, ◌∙◌, add-one, arith}
use Rattle.std.proofs.lemmas.Bool.{eq-eqb, ne_eqb}
use Rattle.std.proofs.lemmas.List.{take_rest, length-take}
use Rattle.text_lines.specs.Lines.{lines_of}

-- no byte below an index is a line feed
abbrev pub NoFeedBelow : List ℕ → ℕ → Type 0
NoFeedBelow text i = (k : ℕ) → k < i → get_or text k 0 ≡ 10 → ⊥

no_feed_later : (byte : ℕ) (text : List ℕ) (i : ℕ) → NoFeedBelow (byte ∷ text) (suc i) → NoFeedBelow text i
no_feed_later byte text i none = λ k below. none (suc k) (omega arith)

line_cut : (text : List ℕ) (i : ℕ) → i < length text → get_or text i 0 ≡ 10 → NoFeedBelow text i → lines_of text ≡ take i text ∷ lines_of (drop (suc i) text)
line_cut [] i below feed none = absurd (omega arith)
line_cut (byte ∷ text) zero below feed none = rw (eq-eqb byte 10 feed) refl
line_cut (byte ∷ text) (suc i) below feed none =
    rw (ne_eqb byte 10 (none 0 (omega arith)), line_cut text i (omega arith) feed (no_feed_later byte text i none)) refl

rest_is_short : (text : List ℕ) (i : ℕ) → i < length text → length (take (length text - (i + 1)) (drop (i + 1) text)) < length text
rest_is_short text i below = omega (arith, length-take (length text - (i + 1)) (drop (i + 1) text))

pub first_line : (text : List ℕ) (i : ℕ) → i < length text → get_or text i 0 ≡ 10 → NoFeedBelow text i
    → (lines_of text ≡ take i text ∷ lines_of (take (length text - (i + 1)) (drop (i + 1) text))) × (length (take (length text - (i + 1)) (drop (i + 1) text)) < length text)
first_line text i below feed none =
    let cut : lines_of text ≡ take i text ∷ lines_of (drop (i + 1) text) = line_cut text i below feed none ∙ ap (λ (n : ℕ). take i text ∷ lines_of (drop n text)) (sym (add-one i)) in
    (cut ∙ ap (λ (v : List ℕ). take i text ∷ lines_of v) (sym (take_rest text (i + 1))), rest_is_short text i below)

pub only_line : (text : List ℕ) → 0 < length text → NoFeedBelow text (length text) → lines_of text ≡ text ∷ []
only_line [] some none = absurd (omega arith)
only_line (byte ∷ []) some none = rw (ne_eqb byte 10 (none 0 (omega arith))) refl
only_line (byte ∷ other ∷ text) some none =
    rw (ne_eqb byte 10 (none 0 (omega arith)), only_line (other ∷ text) (omega arith) (no_feed_later byte (other ∷ text) (length (other ∷ text)) none)) refl
