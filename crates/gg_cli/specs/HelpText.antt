-- What `help` prints.
use Rattle.std.specs.Prelude.{ℕ, List, [], ◌∷◌, ◌++◌, codes}
use Rattle.std.specs.List.{flat_map}

-- the first words of the commands
abbrev pub first_words : List (List ℕ)
first_words = codes "force" ∷ codes "create-thunk" ∷ codes "model" ∷ codes "infer" ∷ codes "build" ∷ codes "describe" ∷ codes "demo" ∷ codes "worker" ∷ codes "help" ∷ []

-- a word in a line
abbrev pub word_line : List ℕ → List ℕ
word_line word = word ++ 10 ∷ []

-- each of them in a line
abbrev pub help_text : List ℕ
help_text = flat_map word_line first_words
