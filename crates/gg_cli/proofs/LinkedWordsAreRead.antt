-- Options of forcing over links are read one after another.
use Rattle.std.proofs.Common.{◌≡◌, ℕ, List, ◌∷◌, map, true, false, Some, refl}
use Rattle.std.specs.Prelude.{bytes_eq, codes}
use Rattle.gg_cli.specs.declared.command.LinkChoice.{LinkChoice}
use Rattle.gg_cli.specs.declared.linked_words.LinkedOptions.{LinkedOptions}
use Rattle.gg_cli.specs.LinkedWords.{address_added, linked_from, reported, with_number}

module _ {X : Type 0} (bytes : X → List ℕ) (words : List X) (word : X) (behind : List X) (value : X) (rest : List X) (first : words ≡ word ∷ behind) (second : behind ≡ value ∷ rest) (links : LinkChoice) (given : LinkedOptions) where
  -- the report is wanted
  pub from-report : (more : LinkedOptions) → bytes_eq (bytes word) (codes "--report") ≡ true → reported given ≡ Some more → linked_from links given (map bytes words) ≡ linked_from links more (map bytes behind)
  unfolding linked_from
  from-report more is found = rw (first, second, is, found) refl

  -- a worker more
  pub from-worker : (more : LinkChoice) → bytes_eq (bytes word) (codes "--report") ≡ false → bytes_eq (bytes word) (codes "--worker") ≡ true → address_added links (bytes value) ≡ Some more
      → linked_from links given (map bytes words) ≡ linked_from more given (map bytes rest)
  unfolding linked_from
  from-worker more other is found = rw (first, second, other, is, found) refl

  -- an option with a number
  pub from-number : (more : LinkedOptions) → bytes_eq (bytes word) (codes "--report") ≡ false → bytes_eq (bytes word) (codes "--worker") ≡ false → with_number given (bytes word) (bytes value) ≡ Some more
      → linked_from links given (map bytes words) ≡ linked_from links more (map bytes rest)
  unfolding linked_from
  from-number more other neither found = rw (first, second, other, neither, found) refl
