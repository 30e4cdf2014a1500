-- The parts of lines: what they do together, and those of lines behind others.
use Rattle.std.proofs.Common.{◌≡◌, ℕ, ◌+◌, List, [], ◌∷◌, ◌++◌, refl, sym, ap, ◌∙◌, append_assoc, append-nil}
use Rattle.build_plan.specs.Way.{Way}
use Rattle.build_script.specs.declared.lines.ScriptLine.{ScriptLine}
use Rattle.build_script.specs.Script.{ScriptEnd, Finished, Halted, go_on, line_done, lines_done, state_at}
use Rattle.gg_cli.specs.Parts.{Part, first_part, line_parts, part_then}

-- how lines end that go on from earlier lines
abbrev pub joined : {S : Type 0} → (S → S → S) → S → ScriptEnd S → ScriptEnd S
joined join base (Finished count s) = Finished count (join base s)
joined join base (Halted halt s) = Halted halt (join base s)

-- lines that are done ended in one state
same_end : {S : Type 0} (n m : ℕ) (s t : S) → ◌≡◌ {A = ScriptEnd S} (Finished n s) (Finished m t) → s ≡ t
same_end n m s t is = ap state_at is

module _ {S A : Type 0} (way : Way S A) (afresh : S → S) (part : S → Part) (join : S → S → S)
    (same : (base s : S) → afresh (join base s) ≡ afresh s)
    (moves : (line : ScriptLine) (s : S) → line_done way line s ≡ joined join s (line_done way line (afresh s))) where
  abbrev parts : List ScriptLine → S → List Part
  parts = line_parts way afresh part

  -- the parts of lines stand on what a line starts from
  parts-same : (lines : List ScriptLine) (s t : S) → afresh s ≡ afresh t → parts lines s ≡ parts lines t
  parts-same [] s t is = refl
  parts-same (line ∷ lines) s t is = ap (λ (start : S). part_then part (line_done way line start) (λ after. parts lines after)) is

  -- what is picked of all parts is what is picked of the end, after what stood before
  module _ {X : Type 0} (pick : Part → List X) (all : List Part → List X) (none : all [] ≡ []) (more : (first : Part) (others : List Part) → all (first ∷ others) ≡ pick first ++ all others)
      (adds : (base s : S) → pick (part (join base s)) ≡ pick (part base) ++ pick (part s)) where
    pub parts-all : (lines : List ScriptLine) (count : ℕ) (s : S) → pick (part (state_at (lines_done way lines count s))) ≡ pick (part s) ++ all (parts lines s)
    parts-all [] count s = sym (append-nil (pick (part s))) ∙ ap (λ (l : List X). pick (part s) ++ l) (sym none)
    parts-all (line ∷ lines) count s =
        ap (λ (e : ScriptEnd S). pick (part (state_at (go_on e (λ more after. lines_done way lines (count + more) after))))) (moves line s)
        ∙ on (line_done way line (afresh s)) (λ more t. parts-all lines (count + more) t)
      where
        one : (t : S) (behind : List X) → pick (part (join s t)) ++ behind ≡ pick (part s) ++ (pick (part t) ++ behind)
        one t behind = ap (λ (l : List X). l ++ behind) (adds s t) ∙ append_assoc (pick (part s)) (pick (part t)) behind

        on : (e : ScriptEnd S)
            → ((more : ℕ) (t : S) → pick (part (state_at (lines_done way lines (count + more) t))) ≡ pick (part t) ++ all (parts lines t))
            → pick (part (state_at (go_on (joined join s e) (λ more after. lines_done way lines (count + more) after))))
            ≡ pick (part s) ++ all (part_then part e (λ after. parts lines after))
        on (Finished n t) next =
            next n (join s t) ∙ ap (λ (ps : List Part). pick (part (join s t)) ++ all ps) (parts-same lines (join s t) t (same s t))
            ∙ one t (all (parts lines t)) ∙ ap (λ (l : List X). pick (part s) ++ l) (sym (more (part t) (parts lines t)))
        on (Halted halt t) next =
            sym (append-nil (pick (part (join s t)))) ∙ one t [] ∙ ap (λ (l : List X). pick (part s) ++ (pick (part t) ++ l)) (sym none)
            ∙ ap (λ (l : List X). pick (part s) ++ l) (sym (more (part t) []))

  -- the parts of lines behind others that are done
  pub parts-append : (xs ys : List ScriptLine) (count n : ℕ) (s last : S) → lines_done way xs count s ≡ Finished n last → parts (xs ++ ys) s ≡ parts xs s ++ parts ys last
  parts-append [] ys count n s last is = ap (λ (t : S). parts ys t) (same_end count n s last is)
  parts-append (x ∷ xs) ys count n s last is =
      on (line_done way x (afresh s)) (λ more t. parts-append xs ys (count + more) n t last)
      (sym (ap (λ (e : ScriptEnd S). go_on e (λ more after. lines_done way xs (count + more) after)) (moves x s)) ∙ is)
    where
      on : (e : ScriptEnd S)
          → ((more : ℕ) (t : S) → lines_done way xs (count + more) t ≡ Finished n last → parts (xs ++ ys) t ≡ parts xs t ++ parts ys last)
          → go_on (joined join s e) (λ more after. lines_done way xs (count + more) after) ≡ Finished n last
          → part_then part e (λ after. parts (xs ++ ys) after) ≡ part_then part e (λ after. parts xs after) ++ parts ys last
      on (Finished m t) next is = ap (λ (ps : List Part). part t ∷ ps)
          (parts-same (xs ++ ys) t (join s t) (sym (same s t)) ∙ next m (join s t) is ∙ ap (λ (ps : List Part). ps ++ parts ys last) (parts-same xs (join s t) t (same s t)))
      on (Halted halt t) next is = absurd (cc is)

  -- the first part of lines is what the first line does
  pub parts-first : (line : ScriptLine) (lines : List ScriptLine) (s : S) → first_part (parts (line ∷ lines) s) ≡ part (state_at (line_done way line (afresh s)))
  parts-first line lines s = on (line_done way line (afresh s))
    where
      on : (e : ScriptEnd S) → first_part (part_then part e (λ after. parts lines after)) ≡ part (state_at e)
      on (Finished n t) = refl
      on (Halted halt t) = refl
