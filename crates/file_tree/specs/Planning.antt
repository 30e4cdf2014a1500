-- Planning a command by its words: steps, of which each may refuse a word, and what a call that plans answers.
use Rattle.std.specs.Prelude.{◌≡◌, ℕ, ◌+◌, min, Bool, Option, Some, None, Result, Ok, Err, if◌then◌else◌}
use Rattle.file_tree.specs.declared.model_fault.Reason.{Reason}
use Rattle.file_tree.specs.declared.model_fault.PlanFault.{PlanFault}
use Rattle.file_tree.specs.declared.model_fault.PlanFault.TheVariants.{Refused, Memory}

-- the next step, with what this one gave
infixl 10 ◌>>=◌
abbrev pub ◌>>=◌ : {A B : Type 0} → Result A PlanFault → (A → Result B PlanFault) → Result B PlanFault
(Ok x) >>= next = next x
(Err fault) >>= next = Err fault

-- what comes next, unless there is a refusal
infixl 10 ◌>>◌
abbrev pub ◌>>◌ : {A : Type 0} → Option PlanFault → Result A PlanFault → Result A PlanFault
None >> next = next
(Some fault) >> next = Err fault

-- the word at a place is refused, where the test holds
abbrev pub refuse_if : Bool → ℕ → Reason → Option PlanFault
refuse_if test at reason = if test then Some (Refused at reason) else None

-- the word at a place is refused, if there is one
abbrev pub refuse_at : Option ℕ → Reason → Option PlanFault
refuse_at None reason = None
refuse_at (Some at) reason = Some (Refused at reason)

-- the place after one; a place that would pass 4,294,967,295 is that
abbrev pub place_after : ℕ → ℕ
place_after at = min (at + 1) 4294967295

-- a word is refused only where the definition refuses it, at the same place and for the same reason
abbrev pub Refuses : {A : Type 0} → PlanFault → Result A PlanFault → Type 0
Refuses (Refused at reason) wanted = wanted ≡ Err (Refused at reason)
Refuses Memory wanted = Unit {0}

-- what was found is what the definition finds, unless memory was refused
abbrev pub Finds : {A : Type 0} → Result A PlanFault → Result A PlanFault → Type 0
Finds (Ok found) wanted = wanted ≡ Ok found
Finds (Err fault) wanted = Refuses fault wanted
