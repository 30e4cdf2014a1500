-- What is held stays held, with its bytes, through a whole evaluation.
use Rattle.std.proofs.Common.{◌≡◌, ℕ, List, Option, Some, None, refl, sym, ap, subst, ◌∙◌, length}
use Rattle.std.specs.Prelude.{IsSome}
use Rattle.object_name.specs.Name.{ObjectName}
use Rattle.thunk_codec.specs.declared.reference.Ref.{Ref}
use Rattle.thunk_codec.specs.declared.job.Job.{Job}
use Rattle.thunk_codec.specs.declared.job.Outcome.{Outcome}
use Rattle.blob_store.specs.Store.{Store, Write, held, after_write}
use Rattle.blob_store.specs.Store.Write.{Object, Note}
use Rattle.blob_store.proofs.PublicLaws.{held-put-other}
use Rattle.need_eval.specs.Eval.{State, Stands, ◌>>=◌, give, need, note_asked}
use Rattle.need_eval.specs.Evaluation.{ask, values_of}
use Rattle.need_eval.specs.MetObjects.{AreHeld}
use Rattle.need_eval.specs.WritePrefix.{state_after}
use Rattle.need_eval.proofs.KeptRelations.{Keeps, IsKept, IsMade, keeps-go_on, keeps-need, keeps-values_of}
use Rattle.need_eval.proofs.Places.{all-more}

-- what one store holds the other holds, with the same bytes
abbrev pub HoldsAll : Store → Store → Type 0
HoldsAll old now = (name : ObjectName) (bytes : List ℕ) → held old.objects name ≡ Some bytes → held now.objects name ≡ Some bytes

pub is_some-from : (o : Option (List ℕ)) (bytes : List ℕ) → o ≡ Some bytes → IsSome o
is_some-from o bytes is = subst (λ (o : Option (List ℕ)). IsSome o) (sym is) refl

pub some-holds : (old now : Store) → HoldsAll old now → (name : ObjectName) → IsSome (held old.objects name) → IsSome (held now.objects name)
some-holds old now holds name some = by (held old.objects name) refl some
  where
    by : (o : Option (List ℕ)) → held old.objects name ≡ o → IsSome o → IsSome (held now.objects name)
    by None is some = absurd (cc some)
    by (Some bytes) is some = is_some-from (held now.objects name) bytes (holds name bytes is)

pub are-held : (old now : Store) → HoldsAll old now → (names : List ObjectName) → AreHeld old names → AreHeld now names
are-held old now holds names all = all-more (λ name. IsSome (held old.objects name)) (λ name. IsSome (held now.objects name)) (some-holds old now holds) names all

abbrev Holds : State → State → Type 0
Holds s t = HoldsAll s.store t.store

Holds-kept : IsKept Holds
Holds-kept = record { same = λ s name bytes was. was; both = λ s t u first then name bytes was. then name bytes (first name bytes was) }

-- a write of an object of whose name none is held displaces nothing, and a note is no object
pub write-holds : (store : Store) (write : Write) → IsMade store write → HoldsAll store (after_write store write)
write-holds store (Object own fresh) none name bytes was =
    let differ : name ≡ own → ⊥ = λ e. cc (sym was ∙ ap (held store.objects) e ∙ none) in
    held-put-other store.objects own fresh name differ ∙ was
write-holds store (Note own fresh) none name bytes was = was

Holds-ask : (answer : ℕ → Job → Option Outcome) (text : List ℕ) (job : Job) → Keeps Holds (ask answer text job)
Holds-ask answer text job s =
    keeps-go_on Holds Holds-kept s (need (answer (length s.asked) job) (Stands text job) s) (λ outcome. note_asked job >>= λ _. give outcome)
    (keeps-need Holds Holds-kept (answer (length s.asked) job) (Stands text job) s)
    (λ outcome u name bytes was. was)

pub values_of-hold : (answer : ℕ → Job → Option Outcome) (budget : ℕ) (refs : List Ref) (s : State) (name : ObjectName) (bytes : List ℕ) →
    held s.store.objects name ≡ Some bytes → held (state_after (values_of answer budget refs s)).store.objects name ≡ Some bytes
values_of-hold answer budget =
    keeps-values_of Holds Holds-kept (λ write s is_made. write-holds s.store write is_made) (λ name outputs s other bytes was. was)
    answer (Holds-ask answer) budget (λ s below name bytes was. was)
