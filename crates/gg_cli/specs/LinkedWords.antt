-- The words of `force` over links: the mode, options in any order, and items.
use Rattle.std.specs.Prelude.{◌≤◌, ℕ, List, [], ◌∷◌, ◌++◌, length, nat_lt, nat_le, Bool, true, false, Option, Some, None, unwrap_or, bytes_eq, codes, if◌then◌else◌}
use Rattle.text_lines.specs.Maybe.{◌>>=◌, ◌>>◌, check}
use Rattle.gg_cli.specs.declared.command.Command.{Command}
use Rattle.gg_cli.specs.declared.command.Command.TheVariants.{ForceWith}
use Rattle.gg_cli.specs.declared.command.LinkChoice.{LinkChoice}
use Rattle.gg_cli.specs.declared.command.LinkChoice.TheVariants.{Jobs, Workers}
use Rattle.gg_cli.specs.declared.linked_words.LinkedOptions.{LinkedOptions}
use Rattle.gg_cli.specs.ForceWords.{default_budget, default_retries, filled, max_items, max_retries, no_options, with_option}
use Rattle.gg_cli.specs.ItemWords.{items_in}
use Rattle.gg_cli.specs.NumberWords.{number_within}
use Rattle.gg_cli.specs.WorkerWords.{address_of}

-- the most links
abbrev pub max_links : ℕ
max_links = 64

-- the most leases of one job that may be out at a time
abbrev pub max_copies : ℕ
max_copies = 4

-- how many they may be where no number is given
abbrev pub default_copies : ℕ
default_copies = 2

-- whether the words after `force` begin with a mode of links
abbrev pub has_links : List (List ℕ) → Bool
has_links [] = false
has_links (word ∷ words) = if bytes_eq word (codes "--jobs") then true else bytes_eq word (codes "--worker")

-- one worker, at the address that a word is
abbrev pub one_worker : List ℕ → Option LinkChoice
one_worker word = address_of word >>= λ address. Some (Workers (address ∷ []))

-- the links that a mode and its value give
abbrev pub choice_of : List ℕ → List ℕ → Option LinkChoice
choice_of word value =
    if bytes_eq word (codes "--jobs") then (number_within 1 max_links value >>= λ count. Some (Jobs count))
    else if bytes_eq word (codes "--worker") then one_worker value
    else None

-- the links with a worker more: where they are workers, and not too many
abbrev pub address_added : LinkChoice → List ℕ → Option LinkChoice
address_added (Jobs count) word = None
address_added (Workers addresses) word = do
  check (nat_lt (length addresses) max_links)
  address ← address_of word
  Some (Workers (addresses ++ address ∷ []))

-- the numbers that are given are within their limits
abbrev pub AreWithin : LinkedOptions → Type 0
AreWithin given = (unwrap_or given.shared.retries default_retries ≤ max_retries) × (1 ≤ unwrap_or given.copies default_copies) × (unwrap_or given.copies default_copies ≤ max_copies)

-- no option is given yet
abbrev pub no_linked_options : LinkedOptions
no_linked_options = record { shared = no_options; copies = None; report = false }

-- the options with the report wanted, where it wasn't yet
abbrev pub reported : LinkedOptions → Option LinkedOptions
reported given = if given.report then None else Some (record given { report = true })

-- the number of copies that a word gives
abbrev pub copies_of : List ℕ → Option ℕ
copies_of word = number_within 1 max_copies word

-- the options with one more, where `word` names an option whose slot is empty and `value` is a number for it
abbrev pub with_number : LinkedOptions → List ℕ → List ℕ → Option LinkedOptions
with_number given word value =
    if bytes_eq word (codes "--copies") then (filled given.copies (copies_of value) >>= λ copies. Some (record given { copies = Some copies }))
    else (with_option given.shared word value >>= λ shared. Some (record given { shared = shared }))

-- `ITEM` and more items after the options: at least one, and not too many
abbrev pub linked_items : LinkChoice → LinkedOptions → List (List ℕ) → Option Command
linked_items links given words = do
  check (nat_le 1 (length words))
  check (nat_le (length words) max_items)
  items ← items_in words
  Some (ForceWith links (record {
    budget = unwrap_or given.shared.budget default_budget;
    retries = unwrap_or given.shared.retries default_retries;
    copies = unwrap_or given.copies default_copies;
  }) given.report items)

-- options in any order, beside those given, and then items. An option whose slot is full or whose value is no number for it is taken
-- for the first item, which no word may be that begins with `-`
unfoldable pub linked_from : LinkChoice → LinkedOptions → List (List ℕ) → Option Command
linked_from links given (word ∷ value ∷ rest) =
    if bytes_eq word (codes "--report") then (reported given >>= λ more. linked_from links more (value ∷ rest))
    else if bytes_eq word (codes "--worker") then (address_added links value >>= λ more. linked_from more given rest)
    else elim (with_number given word value) [ Some more ↦ linked_from links more rest | None ↦ linked_items links given (word ∷ value ∷ rest) ]
linked_from links given words = linked_items links given words

-- what follows `force` over links: the mode, options in any order, and items
abbrev pub linked_force_of : List (List ℕ) → Option Command
linked_force_of [] = None
linked_force_of (word ∷ []) = None
linked_force_of (word ∷ value ∷ rest) = choice_of word value >>= λ links. linked_from links no_linked_options rest
