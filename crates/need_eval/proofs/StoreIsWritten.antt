-- The store at the end of an evaluation is the store at its start with the writes put in.
use Rattle.std.proofs.Common.{◌≡◌, ℕ, List, [], ◌∷◌, ◌++◌, Option, refl, sym, ap, ◌∙◌, append_assoc, append-nil, length}
use Rattle.object_name.specs.Name.{ObjectName}
use Rattle.thunk_codec.specs.declared.reference.Ref.{Ref}
use Rattle.thunk_codec.specs.declared.job.Job.{Job}
use Rattle.thunk_codec.specs.declared.job.Outcome.{Outcome}
use Rattle.thunk_codec.specs.Thunk.{Parts}
use Rattle.blob_store.specs.Store.{Store, Write, written, after_write}
use Rattle.blob_store.proofs.PublicLaws.{written-append}
use Rattle.need_eval.specs.declared.frame.Frame.{Frame}
use Rattle.need_eval.specs.Eval.{State, Stands, start, each, need, give, note_asked, mark, ◌>>=◌}
use Rattle.need_eval.specs.Evaluation.{ask, store_one, outputs_by, finished, reduce, values_of}
use Rattle.need_eval.specs.Machine.{resume}
use Rattle.need_eval.specs.WritePrefix.{state_after}
use Rattle.need_eval.proofs.KeptRelations.{Keeps, IsKept, IsMade, keeps-go_on, keeps-need, keeps-each, keeps-store_one, keeps-outputs_by, keeps-finished, keeps-reduce, keeps-values_of, keeps-resume}

-- some writes were made, and are put into the store
pub record Grows (s t : State) : Type 0 where
  pub made : List Write
  pub writes : t.writes ≡ s.writes ++ made
  pub store : t.store ≡ written s.store made

pub Grows-same : (s : State) → Grows s s
Grows-same s = record { made = []; writes = sym (append-nil s.writes); store = refl }

pub Grows-both : (s t u : State) → Grows s t → Grows t u → Grows s u
Grows-both s t u first then = record {
  made = first.made ++ then.made;
  writes = then.writes ∙ ap (λ writes. writes ++ then.made) first.writes ∙ append_assoc s.writes first.made then.made;
  store = then.store ∙ ap (λ store. written store then.made) first.store ∙ sym (written-append s.store first.made then.made);
}

pub Grows-kept : IsKept Grows
Grows-kept = record { same = Grows-same; both = Grows-both }

-- one write
pub Grows-write : (write : Write) (s : State) → IsMade s.store write → Grows s (record s { store = after_write s.store write; writes = s.writes ++ write ∷ [] })
Grows-write write s is_made = record { made = write ∷ []; writes = refl; store = refl }

-- where the store and the writes stay
pub Grows-stay : (s t : State) → t.store ≡ s.store → t.writes ≡ s.writes → Grows s t
Grows-stay s t store writes = record { made = []; writes = writes ∙ sym (append-nil s.writes); store = store }

pub Grows-mark : (name : ObjectName) (outputs : List ObjectName) → Keeps Grows (mark name outputs)
Grows-mark name outputs s = Grows-stay s (state_after (mark name outputs s)) refl refl

pub Grows-ask : (answer : ℕ → Job → Option Outcome) (text : List ℕ) (job : Job) → Keeps Grows (ask answer text job)
Grows-ask answer text job s =
    keeps-go_on Grows Grows-kept s (need (answer (length s.asked) job) (Stands text job) s) (λ outcome. note_asked job >>= λ _. give outcome)
    (keeps-need Grows Grows-kept (answer (length s.asked) job) (Stands text job) s)
    (λ outcome u. Grows-stay u (state_after (note_asked job u)) refl refl)

-- the storing of some objects
pub stores-grow : (objects : List (List ℕ)) → Keeps Grows (each store_one objects)
stores-grow objects = keeps-each Grows Grows-kept store_one objects (keeps-store_one Grows Grows-kept Grows-write)

pub outputs_by-grows : (name : ObjectName) (outcome : Outcome) → Keeps Grows (outputs_by name outcome)
outputs_by-grows = keeps-outputs_by Grows Grows-kept Grows-write

pub finished-grows : (name : ObjectName) (t : Parts) (outcome : Outcome) → Keeps Grows (finished name t outcome)
finished-grows = keeps-finished Grows Grows-kept Grows-write

pub reduce-grows : (answer : ℕ → Job → Option Outcome) (name : ObjectName) (t : Parts) → Keeps Grows (reduce answer name t)
reduce-grows answer = keeps-reduce Grows Grows-kept Grows-write Grows-mark answer (Grows-ask answer)

-- a whole evaluation
pub values_of-grows : (answer : ℕ → Job → Option Outcome) (budget : ℕ) (refs : List Ref) → Keeps Grows (values_of answer budget refs)
values_of-grows answer budget =
    keeps-values_of Grows Grows-kept Grows-write Grows-mark answer (Grows-ask answer) budget (λ s below. Grows-stay s _ refl refl)

-- what is left of one
pub resume-grows : (answer : ℕ → Job → Option Outcome) (budget : ℕ) (frames : List Frame) (done : List ObjectName) (rest : List Ref) → Keeps Grows (resume answer budget frames done rest)
resume-grows answer budget =
    keeps-resume Grows Grows-kept Grows-write Grows-mark answer (Grows-ask answer) budget (λ s below. Grows-stay s _ refl refl)

-- from the start on, all writes are those made
pub store_is_written : (answer : ℕ → Job → Option Outcome) (budget : ℕ) (refs : List Ref) (before : Store) → (state_after (values_of answer budget refs (start before))).store ≡ written before (state_after (values_of answer budget refs (start before))).writes
store_is_written answer budget refs before =
    let grown = values_of-grows answer budget refs (start before) in
    grown.store ∙ ap (λ writes. written before writes) (sym grown.writes)
