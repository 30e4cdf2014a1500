-- How a call that reads wanted items answers.
use Rattle.std.specs.Prelude.{◌≡◌, ◌⊎◌, ℕ, List, Result, Ok, Err}
use Rattle.object_name.specs.Causes.{RoseBy}
use Rattle.object_name.specs.declared.trouble.Trouble.{Trouble}
use Rattle.object_name.specs.declared.trouble.Trouble.TheVariants as troubles
use Rattle.file_tree.specs.declared.refusal.FileRefusal.{FileRefusal}
use Rattle.file_tree.specs.declared.refusal.FileRefusal.TheVariants.{Twice, NoFile, TooLong, NotPlaceholder, Generated, ThunkText, Computed}
use Rattle.file_tree.specs.declared.refusal.WantFault.{WantFault}
use Rattle.file_tree.specs.declared.refusal.WantFault.TheVariants.{Refused, Failed, Memory}

-- the answer is this result, unless a call failed or memory ran out
abbrev pub Answers : {T : Type 0} → Result T FileRefusal → Result T WantFault → Type 0
Answers wanted (Ok value) = wanted ≡ Ok value
Answers wanted (Err (Refused refusal)) = wanted ≡ Err refusal
Answers wanted (Err Failed) = Unit {0}
Answers wanted (Err Memory) = Unit {0}

-- the refusal of an item that repeats this text, unless memory ran out
abbrev pub RefusesTwice : {T : Type 0} → List ℕ → Result T WantFault → Type 0
RefusesTwice text result = (result ≡ Err (Refused (Twice text))) ⊎ (result ≡ Err Memory)

-- a refusal of another kind
abbrev pub IsOther : FileRefusal → Type 0
IsOther (Twice text) = ⊥
IsOther (NoFile path) = Unit {0}
IsOther (TooLong path) = Unit {0}
IsOther (NotPlaceholder path) = Unit {0}
IsOther (Generated path) = Unit {0}
IsOther (ThunkText path) = Unit {0}
IsOther (Computed path line) = Unit {0}

-- no item is refused because it is repeated
abbrev pub NeverTwice : {T : Type 0} → Result T WantFault → Type 0
NeverTwice (Ok value) = Unit {0}
NeverTwice (Err (Refused refusal)) = IsOther refusal
NeverTwice (Err Failed) = Unit {0}
NeverTwice (Err Memory) = Unit {0}

-- a fault is answered only where the tree's count rose by more than the retries
abbrev pub WantCause : {T : Type 0} → ℕ → ℕ → ℕ → Result T WantFault → Type 0
WantCause retries before after (Ok value) = Unit {0}
WantCause retries before after (Err (Refused refusal)) = Unit {0}
WantCause retries before after (Err Failed) = RoseBy retries before after
WantCause retries before after (Err Memory) = Unit {0}

-- what a call answers where the tree is in trouble
abbrev pub fault_of : Trouble → WantFault
fault_of troubles.Failed = Failed
fault_of troubles.Memory = Memory

-- how many failures of the tree the answer is
abbrev pub want_failures : {T : Type 0} → Result T WantFault → ℕ
want_failures (Ok refs) = 0
want_failures (Err (Refused refusal)) = 0
want_failures (Err Failed) = 1
want_failures (Err Memory) = 0
