-- The expansion of a line, run by run.
use Rattle.std.proofs.Common.{◌≡◌, ℕ, ◌<◌, ◌≤◌, Bool, true, false, List, [], ◌∷◌, ◌++◌, length, not, drop, refl, sym, ap, ◌∙◌, append_assoc, length-append, length-drop, arith, inl, inr}
use Rattle.std.specs.Prelude.{◌||◌}
use Rattle.std.specs.List.{flat_map, take_while}
use Rattle.std.proofs.lemmas.Bool.{cases_Bool}
use Rattle.std.proofs.lemmas.List.Sums.{take_while-cons}
use Rattle.text_lines.specs.Lines.{onto}
use Rattle.thunk_codec.specs.Thunk.{is_letter, is_digit}
use Rattle.tool_text.specs.Directive.{is_word_byte, after_while}
use Rattle.tool_text.specs.Expand.{Macros, at_word, pieces_of, replaced, expanded}

-- ---- runs

run_more : (test : ℕ → Bool) (byte : ℕ) (text : List ℕ) → test byte ≡ true → take_while test (byte ∷ text) ≡ byte ∷ take_while test text
run_more test byte text holds = take_while-cons test byte text ∙ rw holds refl

run_ends : (test : ℕ → Bool) (byte : ℕ) (text : List ℕ) → test byte ≡ false → take_while test (byte ∷ text) ≡ []
run_ends test byte text fails = take_while-cons test byte text ∙ rw fails refl

after_more : (test : ℕ → Bool) (byte : ℕ) (text : List ℕ) → test byte ≡ true → after_while test (byte ∷ text) ≡ after_while test text
after_more test byte text holds = ap (λ (v : List ℕ). drop (length v) (byte ∷ text)) (run_more test byte text holds)

after_ends : (test : ℕ → Bool) (byte : ℕ) (text : List ℕ) → test byte ≡ false → after_while test (byte ∷ text) ≡ byte ∷ text
after_ends test byte text fails = ap (λ (v : List ℕ). drop (length v) (byte ∷ text)) (run_ends test byte text fails)

after_is_short : (test : ℕ → Bool) (text : List ℕ) → length (after_while test text) ≤ length text
after_is_short test text = omega (arith, length-drop (length (take_while test text)) text)

-- ---- bytes of no word

-- a byte that stands in no word
abbrev pub is_other : ℕ → Bool
is_other byte = not (is_word_byte byte)

first_false : (a b : Bool) → a || b ≡ false → a ≡ false
first_false false b e = refl
first_false true b e = e

other_is_kept : (macros : Macros) (byte : ℕ) → is_word_byte byte ≡ false → replaced macros (byte ∷ []) ≡ byte ∷ []
other_is_kept macros byte fails = rw (first_false (is_letter byte) (is_digit byte) fails) refl

other_piece : (byte : ℕ) (text : List ℕ) → is_word_byte byte ≡ false → pieces_of (byte ∷ text) ≡ (byte ∷ []) ∷ pieces_of text
other_piece byte text fails = rw fails refl

pub others_first : (macros : Macros) (text : List ℕ) → expanded macros text ≡ take_while is_other text ++ expanded macros (after_while is_other text)
others_first macros [] = refl
others_first macros (byte ∷ text) = elim (cases_Bool (is_word_byte byte)) [
  | inl holds ↦
      let fails : is_other byte ≡ false = ap not holds in
      sym (ap (λ (v : List ℕ). v ++ expanded macros (after_while is_other (byte ∷ text))) (run_ends is_other byte text fails) ∙ ap (expanded macros) (after_ends is_other byte text fails))
  | inr fails ↦
      let holds : is_other byte ≡ true = ap not fails in
      let first : expanded macros (byte ∷ text) ≡ replaced macros (byte ∷ []) ++ expanded macros text = ap (flat_map (replaced macros)) (other_piece byte text fails) in
      let kept : replaced macros (byte ∷ []) ++ expanded macros text ≡ byte ∷ expanded macros text = ap (λ (v : List ℕ). v ++ expanded macros text) (other_is_kept macros byte fails) in
      first ∙ kept ∙ ap (λ (v : List ℕ). byte ∷ v) (others_first macros text)
      ∙ sym (ap (λ (v : List ℕ). v ++ expanded macros (after_while is_other (byte ∷ text))) (run_more is_other byte text holds)
      ∙ ap (λ (v : List ℕ). byte ∷ (take_while is_other text ++ expanded macros v)) (after_more is_other byte text holds))
]

-- ---- a word

piece_goes_on : (byte other : ℕ) (text : List ℕ) → is_word_byte byte ≡ true → is_word_byte other ≡ true → pieces_of (byte ∷ other ∷ text) ≡ onto byte (pieces_of (other ∷ text))
piece_goes_on byte other text holds more = rw (holds, more) refl

piece_ends : (byte other : ℕ) (text : List ℕ) → is_word_byte byte ≡ true → is_word_byte other ≡ false → pieces_of (byte ∷ other ∷ text) ≡ (byte ∷ []) ∷ pieces_of (other ∷ text)
piece_ends byte other text holds fails = rw (holds, fails) refl

same_pieces : (whole : List (List ℕ)) (word run later rest : List ℕ) → whole ≡ word ∷ pieces_of later → run ≡ word → rest ≡ later → whole ≡ run ∷ pieces_of rest
same_pieces whole word run later rest e same stays = e ∙ ap (λ (v : List ℕ). v ∷ pieces_of later) (sym same) ∙ ap (λ (v : List ℕ). run ∷ pieces_of v) (sym stays)

-- the word at the beginning is a piece
word_piece : (text : List ℕ) → at_word text ≡ true → pieces_of text ≡ take_while is_word_byte text ∷ pieces_of (after_while is_word_byte text)
word_piece [] starts = absurd cc
word_piece (byte ∷ []) starts =
    same_pieces _ (byte ∷ []) _ [] _ (rw starts refl) (run_more is_word_byte byte [] starts) (after_more is_word_byte byte [] starts)
word_piece (byte ∷ other ∷ text) starts = elim (cases_Bool (is_word_byte other)) [
  | inl more ↦
      same_pieces _ (byte ∷ take_while is_word_byte (other ∷ text)) _ (after_while is_word_byte (other ∷ text)) _
      (piece_goes_on byte other text starts more ∙ ap (onto byte) (word_piece (other ∷ text) more))
      (run_more is_word_byte byte (other ∷ text) starts) (after_more is_word_byte byte (other ∷ text) starts)
  | inr fails ↦
      same_pieces _ (byte ∷ []) _ (other ∷ text) _ (piece_ends byte other text starts fails)
      (run_more is_word_byte byte (other ∷ text) starts ∙ ap (λ (v : List ℕ). byte ∷ v) (run_ends is_word_byte other text fails))
      (after_more is_word_byte byte (other ∷ text) starts ∙ after_ends is_word_byte other text fails)
]

no_word_first : (macros : Macros) (text : List ℕ) → at_word text ≡ false → expanded macros text ≡ replaced macros (take_while is_word_byte text) ++ expanded macros (after_while is_word_byte text)
no_word_first macros [] fails = refl
no_word_first macros (byte ∷ text) fails =
    sym (ap (λ (v : List ℕ). replaced macros v ++ expanded macros (after_while is_word_byte (byte ∷ text))) (run_ends is_word_byte byte text fails) ∙ ap (expanded macros) (after_ends is_word_byte byte text fails))

pub word_first : (macros : Macros) (text : List ℕ) → expanded macros text ≡ replaced macros (take_while is_word_byte text) ++ expanded macros (after_while is_word_byte text)
word_first macros text = elim (cases_Bool (at_word text)) [
  | inl starts ↦ ap (flat_map (replaced macros)) (word_piece text starts)
  | inr fails ↦ no_word_first macros text fails
]

-- ---- a turn of the loop

pub expand_more : (macros : Macros) (whole prefix rest other later word after text first second : List ℕ) → prefix ++ expanded macros rest ≡ whole
    → other ≡ take_while is_other rest → later ≡ after_while is_other rest → word ≡ take_while is_word_byte later → after ≡ after_while is_word_byte later
    → first ≡ prefix ++ other → text ≡ replaced macros word → second ≡ first ++ text → second ++ expanded macros after ≡ whole
expand_more macros whole prefix rest other later word after text first second inv is_run is_later is_word is_after one replaces two =
    let tail : expanded macros rest ≡ other ++ expanded macros later =
    others_first macros rest ∙ ap (λ (v : List ℕ). v ++ expanded macros (after_while is_other rest)) (sym is_run) ∙ ap (λ (v : List ℕ). other ++ expanded macros v) (sym is_later) in
    let more : expanded macros later ≡ text ++ expanded macros after =
    word_first macros later ∙ ap (λ (v : List ℕ). replaced macros v ++ expanded macros (after_while is_word_byte later)) (sym is_word)
    ∙ ap (λ (v : List ℕ). v ++ expanded macros (after_while is_word_byte later)) (sym replaces) ∙ ap (λ (v : List ℕ). text ++ expanded macros v) (sym is_after) in
    ap (λ (v : List ℕ). v ++ expanded macros after) (two ∙ ap (λ (v : List ℕ). v ++ text) one) ∙ append_assoc (prefix ++ other) text (expanded macros after)
    ∙ append_assoc prefix other (text ++ expanded macros after) ∙ ap (λ (v : List ℕ). prefix ++ (other ++ v)) (sym more) ∙ ap (λ (v : List ℕ). prefix ++ v) (sym tail) ∙ inv

turn_is_short : (rest : List ℕ) → 0 < length rest → length (after_while is_word_byte (after_while is_other rest)) < length rest
turn_is_short [] some = absurd (omega arith)
turn_is_short (byte ∷ text) some = elim (cases_Bool (is_word_byte byte)) [
  | inl holds ↦
      let stays = ap (λ (v : List ℕ). length (after_while is_word_byte v)) (after_ends is_other byte text (ap not holds)) in
      let goes = ap length (after_more is_word_byte byte text holds) in
      omega (arith, stays, goes, after_is_short is_word_byte text)
  | inr fails ↦
      let goes = ap (λ (v : List ℕ). length (after_while is_word_byte v)) (after_more is_other byte text (ap not fails)) in
      omega (arith, goes, after_is_short is_word_byte (after_while is_other text), after_is_short is_other text)
]

pub expand_shortens : (rest later after : List ℕ) → 0 < length rest → later ≡ after_while is_other rest → after ≡ after_while is_word_byte later → length after < length rest
expand_shortens rest later after some is_later is_after =
    omega (arith, turn_is_short rest some, ap length (is_after ∙ ap (after_while is_word_byte) is_later))

pub expands_above : (limit : ℕ) (macros : Macros) (whole out after : List ℕ) → out ++ expanded macros after ≡ whole → limit < length out → limit < length whole
expands_above limit macros whole out after inv above = omega (arith, ap length inv, length-append out (expanded macros after))
