-- Blanks and words by their indices.
use Rattle.std.proofs.Common.{◌≡◌, ℕ, zero, suc, ◌<◌, ◌≤◌, ◌-◌, true, false, List, [], ◌∷◌, ◌++◌, length, take, drop, get_or, refl, sym, ap, ◌∙◌, arith, inl, inr}
use Rattle.std.proofs.lemmas.Bool.{cases_Bool}
use Rattle.std.proofs.lemmas.List.{take_rest}
use Rattle.text_lines.specs.Lines.{onto}
use Rattle.text_lines.specs.Blanks.{is_blank, at_blank, skip_blanks, before_text, without_end, words_of}

-- ---- the prefix

-- what does not begin with a blank is left as it is
kept_prefix : (byte : ℕ) (text : List ℕ) → is_blank byte ≡ false → skip_blanks (byte ∷ text) ≡ byte ∷ text
kept_prefix byte text other = rw other refl

skipped_prefix : (byte : ℕ) (text : List ℕ) → is_blank byte ≡ true → skip_blanks (byte ∷ text) ≡ skip_blanks text
skipped_prefix byte text blank = rw blank refl

words_skip : (byte : ℕ) (text : List ℕ) → is_blank byte ≡ true → words_of (byte ∷ text) ≡ words_of text
words_skip byte text blank = rw blank refl

pub words_after_blanks : (text : List ℕ) → words_of (skip_blanks text) ≡ words_of text
words_after_blanks [] = refl
words_after_blanks (byte ∷ text) = elim (cases_Bool (is_blank byte)) [
  | inl blank ↦ ap words_of (skipped_prefix byte text blank) ∙ words_after_blanks text ∙ sym (words_skip byte text blank)
  | inr other ↦ ap words_of (kept_prefix byte text other)
]

pub at_word : (text : List ℕ) → 0 < length (skip_blanks text) → at_blank (skip_blanks text) ≡ false
at_word [] some = absurd (omega arith)
at_word (byte ∷ text) some = elim (cases_Bool (is_blank byte)) [
  | inl blank ↦ rw blank (at_word text (rw blank at some))
  | inr other ↦ rw other other
]

pub skipped_is_short : (text : List ℕ) → length (skip_blanks text) ≤ length text
skipped_is_short [] = omega arith
skipped_is_short (byte ∷ text) = elim (cases_Bool (is_blank byte)) [
  | inl blank ↦ rw blank (omega (arith, skipped_is_short text))
  | inr other ↦ rw other (omega arith)
]

-- ---- the end

pub without_last_blank : (text : List ℕ) (byte : ℕ) → is_blank byte ≡ true → without_end (text ++ byte ∷ []) ≡ without_end text
without_last_blank [] byte blank = rw blank refl
without_last_blank (first ∷ text) byte blank = ap (before_text first) (without_last_blank text byte blank)

before_some : (first : ℕ) (text : List ℕ) (byte : ℕ) → before_text first (text ++ byte ∷ []) ≡ first ∷ (text ++ byte ∷ [])
before_some first [] byte = refl
before_some first (other ∷ text) byte = refl

pub with_last_other : (text : List ℕ) (byte : ℕ) → is_blank byte ≡ false → without_end (text ++ byte ∷ []) ≡ text ++ byte ∷ []
with_last_other [] byte other = rw other refl
with_last_other (first ∷ text) byte other = ap (before_text first) (with_last_other text byte other) ∙ before_some first text byte

pub end_goes_on : (whole text before : List ℕ) (byte : ℕ) → without_end text ≡ without_end whole → text ≡ before ++ byte ∷ [] → is_blank byte ≡ true → without_end before ≡ without_end whole
end_goes_on whole text before byte kept is blank = sym (without_last_blank before byte blank) ∙ ap without_end (sym is) ∙ kept

pub end_stops : (whole text before : List ℕ) (byte : ℕ) → without_end text ≡ without_end whole → text ≡ before ++ byte ∷ [] → is_blank byte ≡ false → text ≡ without_end whole
end_stops whole text before byte kept is other = is ∙ sym (with_last_other before byte other) ∙ ap without_end (sym is) ∙ kept

-- ---- words

-- no byte below an index is a blank
abbrev pub NoBlankBelow : List ℕ → ℕ → Type 0
NoBlankBelow text i = (k : ℕ) → k < i → is_blank (get_or text k 0) ≡ false

no_blank_later : (byte : ℕ) (text : List ℕ) (i : ℕ) → NoBlankBelow (byte ∷ text) (suc i) → NoBlankBelow text i
no_blank_later byte text i none = λ k below. none (suc k) (omega arith)

word_goes_on : (byte other : ℕ) (text : List ℕ) → is_blank byte ≡ false → is_blank other ≡ false → words_of (byte ∷ other ∷ text) ≡ onto byte (words_of (other ∷ text))
word_goes_on byte other text p q = rw (p, q) refl

word_cut : (text : List ℕ) (i : ℕ) → 0 < i → i < length text → is_blank (get_or text i 0) ≡ true → NoBlankBelow text i → words_of text ≡ take i text ∷ words_of (drop i text)
word_cut text zero some below blank none = absurd (omega arith)
word_cut [] (suc i) some below blank none = absurd (omega arith)
word_cut (byte ∷ []) (suc i) some below blank none = absurd (omega arith)
word_cut (byte ∷ other ∷ text) (suc zero) some below blank none = rw (none 0 (omega arith), blank) refl
word_cut (byte ∷ other ∷ text) (suc (suc i)) some below blank none =
    word_goes_on byte other text (none 0 (omega arith)) (none 1 (omega arith))
    ∙ ap (onto byte) (word_cut (other ∷ text) (suc i) (omega arith) (omega arith) blank (no_blank_later byte (other ∷ text) (suc i) none))

true_is_false : true ≡ false → ⊥
true_is_false e = absurd cc

blank_and_not : (text : List ℕ) → at_blank text ≡ false → 0 < length text → is_blank (get_or text 0 0) ≡ true → ⊥
blank_and_not [] starts some blank = absurd (omega arith)
blank_and_not (byte ∷ text) starts some blank = true_is_false (sym blank ∙ starts)

pub first_word : (text : List ℕ) (i : ℕ) → at_blank text ≡ false → i < length text → is_blank (get_or text i 0) ≡ true → NoBlankBelow text i
    → words_of text ≡ take i text ∷ words_of (take (length text - i) (drop i text))
first_word text zero starts below blank none = absurd (blank_and_not text starts below blank)
first_word text (suc i) starts below blank none =
    word_cut text (suc i) (omega arith) below blank none ∙ ap (λ (v : List ℕ). take (suc i) text ∷ words_of v) (sym (take_rest text (suc i)))

pub only_word : (text : List ℕ) → at_blank text ≡ false → NoBlankBelow text (length text) → words_of text ≡ text ∷ []
only_word [] starts none = absurd cc
only_word (byte ∷ []) starts none = rw starts refl
only_word (byte ∷ other ∷ text) starts none =
    word_goes_on byte other text starts (none 1 (omega arith))
    ∙ ap (onto byte) (only_word (other ∷ text) (none 1 (omega arith)) (no_blank_later byte (other ∷ text) (length (other ∷ text)) none))

-- ---- the first word after the blanks at the beginning

pub no_word : (line text : List ℕ) → text ≡ skip_blanks line → length text ≡ 0 → words_of line ≡ []
no_word line [] is none = sym (words_after_blanks line) ∙ ap words_of (sym is)
no_word line (byte ∷ text) is none = absurd (omega arith)

pub begins_a_word : (line text : List ℕ) → text ≡ skip_blanks line → 0 < length text → at_blank text ≡ false
begins_a_word line text is some = ap at_blank is ∙ at_word line (omega (arith, ap length is))

pub word_after_blanks : (line text word after : List ℕ) → text ≡ skip_blanks line → words_of text ≡ word ∷ words_of after → length after < length text
    → (words_of line ≡ word ∷ words_of after) × (length after < length line)
word_after_blanks line text word after is cut shorter =
    (sym (words_after_blanks line) ∙ ap words_of (sym is) ∙ cut, omega (arith, ap length is, skipped_is_short line))
