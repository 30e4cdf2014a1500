-- Options and their values are read one pair after another; a step that finds nothing is that of all.
use Rattle.std.proofs.Common.{◌≡◌, ℕ, ◌-◌, ◌≤◌, ◌<◌, List, [], ◌∷◌, length, map, take, drop, get_or, Option, Some, None, Result, Ok, Err, IsErr, IsErrAnd, sym, ap, ◌∙◌, arith}
use Rattle.std.proofs.lemmas.List.{take_rest}
use Rattle.text_lines.specs.Maybe.{◌>>=◌}
use Rattle.gg_cli.specs.declared.word_fault.WordFault.{WordFault}
use Rattle.gg_cli.specs.declared.word_fault.WordFault.TheVariants.{Usage, Memory}
use Rattle.gg_cli.specs.declared.create_words.Slots.{Slots}
use Rattle.gg_cli.specs.CreateWords.{with_part, with_parts}
use Rattle.gg_cli.specs.Reading.{Refuses, Finds}

-- a step that is refused, in a whole that begins with it
pub refused_whole : {A B : Type 0} (step : Option A) (next : A → Option B) (whole : Option B) → whole ≡ (step >>= next) → (fault : WordFault) → Refuses fault step
    → (result : Result B WordFault) → IsErr result × IsErrAnd result (λ other. other ≡ fault) → Finds result whole
refused_whole step next whole begins fault refuses (Ok found) is = absurd is.1
refused_whole step next whole begins Usage refuses (Err other) is = rw is.1 (begins ∙ ap (λ s. s >>= next) refuses)
refused_whole step next whole begins Memory refuses (Err other) is = rw is.1 tt

module _ {X : Type 0} (bytes : X → List ℕ) (given : Slots) (whole : Option Slots) where
  -- the next pair, and those after it
  pub parts-next : (left : List X) (option value : X) → 2 ≤ length left → option ≡ get_or left 0 option → value ≡ get_or left 1 value → whole ≡ with_parts given (map bytes left)
      → whole ≡ (with_part given (bytes option) (bytes value) >>= λ more. with_parts more (map bytes (take (length left - 2) (drop 2 left))))
  parts-next [] option value two o v begins = absurd (omega (arith, two))
  parts-next (first ∷ []) option value two o v begins = absurd (omega (arith, two))
  parts-next (first ∷ second ∷ rest) option value two o v begins =
      begins ∙ sym (λ i. with_part given (bytes (o i)) (bytes (v i)) >>= λ more. with_parts more (map bytes rest))
      ∙ ap (λ (l : List X). with_part given (bytes option) (bytes value) >>= λ more. with_parts more (map bytes l)) (sym (take_rest (first ∷ second ∷ rest) 2))

  -- it is read
  pub parts-found : (left : List X) (option value : X) (more : Slots) → 2 ≤ length left → option ≡ get_or left 0 option → value ≡ get_or left 1 value → whole ≡ with_parts given (map bytes left)
      → with_part given (bytes option) (bytes value) ≡ Some more → whole ≡ with_parts more (map bytes (take (length left - 2) (drop 2 left)))
  parts-found left option value more two o v begins is =
      parts-next left option value two o v begins ∙ ap (λ found. found >>= λ next. with_parts next (map bytes (take (length left - 2) (drop 2 left)))) is

  -- one word is left, which has no value
  pub parts-odd : (left : List X) → 1 ≤ length left → length left < 2 → whole ≡ with_parts given (map bytes left) → whole ≡ None
  parts-odd [] some few begins = absurd (omega (arith, some))
  parts-odd (last ∷ []) some few begins = begins
  parts-odd (first ∷ second ∷ rest) some few begins = absurd (omega (arith, few))

  -- no word is left
  pub parts-all : (left : List X) → length left < 1 → whole ≡ with_parts given (map bytes left) → whole ≡ Some given
  parts-all [] none begins = begins
  parts-all (first ∷ rest) none begins = absurd (omega (arith, none))
