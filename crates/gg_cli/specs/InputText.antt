-- What reading the input does.
use Rattle.std.specs.Prelude.{◌≡◌, ◌⊎◌, ◌<◌, ◌+◌, ℕ, List, length, Bool, true, false, Option, Some, IfSome, Result, Ok, Err}
use Rattle.std.specs.Io.KnownBytes.{IsAtEnd}
use Rattle.object_name.specs.Name.{max_size}
use Rattle.object_name.specs.Causes.{Rose}
use Rattle.object_name.specs.Streams.{LosesPrefix, LosesUpTo}
use Rattle.gg_cli.specs.declared.command.Command.{Command}
use Rattle.gg_cli.specs.declared.fault.TopFault.{TopFault}
use Rattle.gg_cli.specs.declared.fault.TopFault.TheVariants as tops
use Rattle.gg_cli.specs.declared.status.Status.{Status}
use Rattle.gg_cli.specs.declared.status.Status.TheVariants.{FileRefused, ByteFault, Memory}
use Rattle.gg_cli.specs.Words.{read_by}

-- what an input tells: the bytes left where they are told, how often a read has failed, and how often one was made
pub record Input : Type 0 where
  pub left : Option (List ℕ)
  pub faults : ℕ
  pub reads : ℕ

-- what this input tells
abbrev pub input_of : {I : Type 0} → (I → Option (List ℕ)) → (I → ℕ) → (I → ℕ) → I → Input
input_of left faults reads input = record { left = left input; faults = faults input; reads = reads input }

-- the text that a command reads is what the input has left; other commands, and words that are none, read no text
abbrev pub TellsText : Option Command → Option (List ℕ) → List ℕ → Type 0
TellsText command left text = read_by command ≡ true → left ≡ Some text

-- some of the input was read, at most one byte more than a script may have
abbrev pub IsPartRead : Input → Input → Type 0
IsPartRead before after = LosesUpTo before.left after.left (max_size + 1)

-- all of it was read, and this is the text
pub record IsRead (before after : Input) (text : List ℕ) : Type 0 where
  pub whole : IfSome before.left (λ all. text ≡ all)
  pub at_end : IsAtEnd after.left

-- there is more than a script may have, and one byte more than that was read
pub record IsOver (before after : Input) : Type 0 where
  pub over : IfSome before.left (λ all. max_size < length all)
  pub read : LosesPrefix before.left after.left (max_size + 1)

-- what reading it all did, by its answer
abbrev pub ReadsText : Input → Input → Result (List ℕ) TopFault → Type 0
ReadsText before after (Ok text) = IsRead before after text
ReadsText before after (Err tops.InputTooLong) = IsOver before after
ReadsText before after (Err tops.InputFailed) = Rose before.faults after.faults
ReadsText before after (Err tops.Memory) = Unit {0}
ReadsText before after (Err fault) = ⊥

-- the same for a command that reads it or doesn't
abbrev pub GivesText : Bool → Input → Input → Result (List ℕ) TopFault → Type 0
GivesText true before after result = IsPartRead before after × ReadsText before after result
GivesText false before after (Ok text) = after ≡ before
GivesText false before after (Err fault) = ⊥

-- where a command line that reads the input leaves it, by its end: all of it was read, or there was too much; where the input failed or
-- memory ran out, that isn't known
abbrev pub EndsInput : {T : Type 0} → Input → Input → Result T TopFault → Type 0
EndsInput before after (Ok v) = IsAtEnd after.left
EndsInput before after (Err tops.InputTooLong) = IsAtEnd after.left ⊎ IsOver before after
EndsInput before after (Err tops.InputFailed) = Unit {0}
EndsInput before after (Err tops.Memory) = Unit {0}
EndsInput before after (Err fault) = IsAtEnd after.left

-- the same by its status
abbrev pub StopsInput : Input → Input → Status → Type 0
StopsInput before after FileRefused = IsAtEnd after.left ⊎ IsOver before after
StopsInput before after ByteFault = Unit {0}
StopsInput before after Memory = Unit {0}
StopsInput before after status = IsAtEnd after.left

-- what a command line that reads the input leaves of it
abbrev pub Leaves : {T : Type 0} → Input → Input → Result T TopFault → Type 0
Leaves before after result = IsPartRead before after × EndsInput before after result

-- the same by its status
abbrev pub LeavesInput : Input → Input → Status → Type 0
LeavesInput before after status = IsPartRead before after × StopsInput before after status
