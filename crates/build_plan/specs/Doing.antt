-- Work that goes on over a state, and may stop for a reason.
use Rattle.std.specs.Prelude.{ℕ, List, [], ◌∷◌, Result, Ok, Err}
use Rattle.object_name.specs.Name.{ObjectName}
use Rattle.file_tree.specs.declared.model_fault.Reason.{Reason}
use Rattle.file_tree.specs.declared.refusal.FileRefusal.{FileRefusal}

-- why work stops: a file is refused, the command is, other bytes are held under the name of an object that was to be stored, or, where
-- tools are run, a tool failed with this status
pub data Why : Type 0 where
  File : FileRefusal → Why
  Unmodelled : Reason → Why
  Clash : ObjectName → List ℕ → List ℕ → Why
  Tool : ℕ → Why

-- work ended: it gave something, or stopped, in this state
pub data Ended (S A : Type 0) : Type 0 where
  Got : A → S → Ended S A
  Stopped : Why → S → Ended S A

-- work, by how it ends from each state
abbrev pub Doing : Type 0 → Type 0 → Type 0
Doing S A = S → Ended S A

-- the state in which work ended
abbrev pub state_after : {S A : Type 0} → Ended S A → S
state_after (Got x s) = s
state_after (Stopped why s) = s

-- what follows, from the state in which work ended
abbrev pub go_on : {S A B : Type 0} → Ended S A → (A → Doing S B) → Ended S B
go_on (Got x s) next = next x s
go_on (Stopped why s) next = Stopped why s

-- one work after another, with what the first gave
infixl 10 ◌>>=◌
abbrev pub ◌>>=◌ : {S A B : Type 0} → Doing S A → (A → Doing S B) → Doing S B
work >>= next = λ s. go_on (work s) next

-- one work after another
infixl 10 ◌>>◌
abbrev pub ◌>>◌ : {S A B : Type 0} → Doing S A → Doing S B → Doing S B
work >> next = work >>= λ _. next

-- this, and nothing is done
abbrev pub give : {S A : Type 0} → A → Doing S A
give x = λ s. Got x s

-- the state as it is
abbrev pub current : {S : Type 0} → Doing S S
current = λ s. Got s s

-- what was found, or work stops
abbrev pub unless : {S A : Type 0} → Result A Why → Doing S A
unless (Ok x) = give x
unless (Err why) = λ s. Stopped why s

-- the same work for each of some, in order
abbrev pub each : {S A B : Type 0} → (A → Doing S B) → List A → Doing S (List B)
each work [] = give []
each work (x ∷ xs) = do
  y ← work x
  ys ← each work xs
  give (y ∷ ys)
