-- Command lines, by their words: a command's name, and what follows it.
use Rattle.std.specs.Prelude.{ℕ, All, List, [], ◌∷◌, ◌≤◌, Bool, true, false, Option, Some, None, bytes_eq, codes, if◌then◌else◌}
use Rattle.text_lines.specs.Maybe.{◌>>=◌}
use Rattle.file_tree.specs.Wanted.{IsItem}
use Rattle.build_plan.specs.Fitting.{IsFitRecipe}
use Rattle.gg_cli.specs.declared.command.Command.{Command}
use Rattle.gg_cli.specs.declared.command.Command.TheVariants.{Force, ForceWith, CreateThunk, Model, Infer, Build, Describe, Demo, Worker, Help}
use Rattle.gg_cli.specs.ItemWords.{output_item_of}
use Rattle.gg_cli.specs.ForceWords.{default_retries, max_retries, force_of}
use Rattle.gg_cli.specs.LinkedWords.{default_copies, max_copies, has_links, linked_force_of}
use Rattle.gg_cli.specs.CreateWords.{create_of}
use Rattle.gg_cli.specs.WorkerWords.{worker_of}
use Rattle.gg_cli.specs.NumberWords.{number_within}

-- what follows `model`: the words of a command
abbrev pub model_of : List (List ℕ) → Option Command
model_of [] = None
model_of (first ∷ words) = Some (Model (first ∷ words))

-- a command that no word follows
abbrev pub alone : Command → List (List ℕ) → Option Command
alone command [] = Some command
alone command (word ∷ words) = None

-- what follows `describe`: one item, which is no value
abbrev pub describe_of : List (List ℕ) → Option Command
describe_of [] = None
describe_of (word ∷ []) = output_item_of word >>= λ item. Some (Describe item)
describe_of (word ∷ other ∷ words) = None

-- what follows `force`: over links where the words begin with such a mode
abbrev pub any_force_of : List (List ℕ) → Option Command
any_force_of words = if has_links words then linked_force_of words else force_of words

-- the most functions that a demonstration may have
abbrev pub max_functions : ℕ
max_functions = 500

-- what follows `demo`: the number of functions
abbrev pub demo_of : List (List ℕ) → Option Command
demo_of [] = None
demo_of (word ∷ []) = number_within 1 max_functions word >>= λ count. Some (Demo count)
demo_of (word ∷ other ∷ words) = None

-- the command that some words are, if they are one
unfoldable pub command_of : List (List ℕ) → Option Command
command_of [] = None
command_of (first ∷ words) =
    if bytes_eq first (codes "force") then any_force_of words
    else if bytes_eq first (codes "create-thunk") then create_of words
    else if bytes_eq first (codes "model") then model_of words
    else if bytes_eq first (codes "infer") then alone Infer words
    else if bytes_eq first (codes "build") then alone Build words
    else if bytes_eq first (codes "describe") then describe_of words
    else if bytes_eq first (codes "demo") then demo_of words
    else if bytes_eq first (codes "worker") then worker_of words
    else if bytes_eq first (codes "help") then alone Help words
    else None

-- a command, where it is done without links: all are but the one over links and the one of a worker
abbrev pub here : Command → Option Command
here (Force budget retries items) = Some (Force budget retries items)
here (ForceWith links setup report items) = None
here (CreateThunk recipe) = Some (CreateThunk recipe)
here (Model words) = Some (Model words)
here Infer = Some Infer
here Build = Some Build
here (Describe item) = Some (Describe item)
here (Demo count) = Some (Demo count)
here (Worker address times) = None
here Help = Some Help

-- the command that words are for a call without links
unfoldable pub command_here : List (List ℕ) → Option Command
command_here words = command_of words >>= here

-- a command, where it is done over links: that of forcing over links is
abbrev pub linked : Command → Option Command
linked (ForceWith links setup report items) = Some (ForceWith links setup report items)
linked command = None

-- the command that words are for a call over links
unfoldable pub command_linked : List (List ℕ) → Option Command
command_linked words = command_of words >>= linked

-- how often a command tries a failed call again; words that are none make no call
abbrev pub retries_in : Option Command → ℕ
retries_in None = default_retries
retries_in (Some (Force budget retries items)) = retries
retries_in (Some (ForceWith links setup report items)) = setup.retries
retries_in (Some (CreateThunk recipe)) = default_retries
retries_in (Some (Model words)) = default_retries
retries_in (Some Infer) = default_retries
retries_in (Some Build) = default_retries
retries_in (Some (Describe item)) = default_retries
retries_in (Some (Demo count)) = default_retries
retries_in (Some (Worker address times)) = default_retries
retries_in (Some Help) = default_retries

-- how many leases of one job may be out at a time for a command that is done over links; others start none
abbrev pub copies_in : Option Command → ℕ
copies_in (Some (ForceWith links setup report items)) = setup.copies
copies_in command = default_copies

-- whether a command reads the input
abbrev pub reads_input : Command → Bool
reads_input (Force budget retries items) = false
reads_input (ForceWith links setup report items) = false
reads_input (CreateThunk recipe) = false
reads_input (Model words) = false
reads_input Infer = true
reads_input Build = true
reads_input (Describe item) = false
reads_input (Demo count) = false
reads_input (Worker address times) = false
reads_input Help = false

-- whether some words do: those that are no command line don't
abbrev pub read_by : Option Command → Bool
read_by None = false
read_by (Some command) = reads_input command

-- what a command that was read keeps: what is wanted is named by names of the right kind, numbers are within their limits, and the
-- thunk of a recipe keeps the rules
abbrev pub IsCommand : Command → Type 0
IsCommand (Force budget retries items) = All IsItem items
IsCommand (ForceWith links setup report items) = All IsItem items × (setup.retries ≤ max_retries) × (1 ≤ setup.copies) × (setup.copies ≤ max_copies)
IsCommand (CreateThunk recipe) = IsFitRecipe recipe
IsCommand (Model words) = Unit {0}
IsCommand Infer = Unit {0}
IsCommand Build = Unit {0}
IsCommand (Describe item) = IsItem item
IsCommand (Demo count) = (1 ≤ count) × (count ≤ max_functions)
IsCommand (Worker address times) = Unit {0}
IsCommand Help = Unit {0}
