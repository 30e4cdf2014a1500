-- The words of `force`: `[--local]`, options in any order, and items.
use Rattle.std.specs.Prelude.{ℕ, List, [], ◌∷◌, length, nat_le, Option, Some, None, unwrap_or, bytes_eq, codes, if◌then◌else◌}
use Rattle.text_lines.specs.Maybe.{◌>>=◌, ◌>>◌, check}
use Rattle.gg_cli.specs.declared.command.Command.{Command}
use Rattle.gg_cli.specs.declared.command.Command.TheVariants.{Force}
use Rattle.gg_cli.specs.declared.force_words.Options.{Options}
use Rattle.gg_cli.specs.ItemWords.{items_in}
use Rattle.gg_cli.specs.NumberWords.{number_within}

-- the greatest number of steps where none is given
abbrev pub default_budget : ℕ
default_budget = 65536

-- the most steps that may be given
abbrev pub max_budget : ℕ
max_budget = 1048576

-- how often a failed call is tried again where no number is given
abbrev pub default_retries : ℕ
default_retries = 2

-- the most tries again that may be given
abbrev pub max_retries : ℕ
max_retries = 16

-- the most items of a command line
abbrev pub max_items : ℕ
max_items = 4096

-- the number of steps that a word gives
abbrev pub budget_of : List ℕ → Option ℕ
budget_of word = number_within 1 max_budget word

-- the number of retries that a word gives
abbrev pub retries_of : List ℕ → Option ℕ
retries_of word = number_within 0 max_retries word

-- no option is given yet
abbrev pub no_options : Options
no_options = record { budget = None; retries = None }

-- a number for a slot: none where the slot is full already
abbrev pub filled : Option ℕ → Option ℕ → Option ℕ
filled None number = number
filled (Some given) number = None

-- the options with one more, where `word` names an option whose slot is empty and `value` is a number for it: a line for each option
abbrev pub with_option : Options → List ℕ → List ℕ → Option Options
with_option given word value =
    if bytes_eq word (codes "--budget") then (filled given.budget (budget_of value) >>= λ budget. Some (record given { budget = Some budget }))
    else if bytes_eq word (codes "--retries") then (filled given.retries (retries_of value) >>= λ retries. Some (record given { retries = Some retries }))
    else None

-- the options that some words begin with, beside those given, and the words after them. An option whose slot is full or whose value
-- is no number for it stays the first of the words after them, where no word may begin with `-`
abbrev pub options_of : Options → List (List ℕ) → Options × List (List ℕ)
options_of given (word ∷ value ∷ rest) = elim (with_option given word value) [ Some more ↦ options_of more rest | None ↦ (given, word ∷ value ∷ rest) ]
options_of given rest = (given, rest)

-- `ITEM` and more items after the options: at least one, and not too many
abbrev pub force_items : Options → List (List ℕ) → Option Command
force_items given words = do
  check (nat_le 1 (length words))
  check (nat_le (length words) max_items)
  items ← items_in words
  Some (Force (unwrap_or given.budget default_budget) (unwrap_or given.retries default_retries) items)

-- the words, but for a `--local` that they begin with
abbrev pub without_local : List (List ℕ) → List (List ℕ)
without_local [] = []
without_local (first ∷ words) = if bytes_eq first (codes "--local") then words else first ∷ words

-- what follows `force`: `[--local]`, options in any order, and items
abbrev pub force_of : List (List ℕ) → Option Command
force_of words = let read = options_of no_options (without_local words) in force_items read.0 read.1
