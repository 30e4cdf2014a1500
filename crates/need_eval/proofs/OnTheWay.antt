-- What an evaluation leaves as it is on its way: objects that are held, that there is a note, and the jobs asked for.
use Rattle.std.proofs.Common.{◌≡◌, ℕ, Bool, true, false, cond, List, [], ◌∷◌, Option, Some, length, refl, sym, ap, ◌∙◌}
use Rattle.std.specs.Prelude.{slice_get, is_some, option_and_then}
use Rattle.std.specs.Ordering.{eq_by_cmp}
use Rattle.object_name.specs.Name.{ObjectName, name_cmp}
use Rattle.thunk_codec.specs.declared.job.Job.{Job}
use Rattle.thunk_codec.specs.declared.job.Outcome.{Outcome}
use Rattle.blob_store.specs.Store.{Write, if_named, held}
use Rattle.blob_store.specs.Store.Write.{Object, Note}
use Rattle.object_name.proofs.PublicLaws.{eq_by_cmp-other}
use Rattle.need_eval.specs.Eval.{State, Stands, ◌>>=◌, give, need, make_write, mark, step, note_asked}
use Rattle.need_eval.specs.Evaluation.{ask}
use Rattle.need_eval.specs.WritePrefix.{state_after}
use Rattle.need_eval.proofs.KeptRelations.{Keeps, IsKept, IsMade, keeps-go_on, keeps-need}
use Rattle.need_eval.proofs.Places.{get-prefix}

-- from the one state evaluation may come to the other: what is held lies there as it is, where there is a note there is one, and the
-- jobs that were asked for were
pub record IsOnTheWay (s t : State) : Type 0 where
  pub objects : (name : ObjectName) (bytes : List ℕ) → held s.store.objects name ≡ Some bytes → t.store.objects name ≡ s.store.objects name
  pub notes : (name : ObjectName) → is_some (s.store.notes name) ≡ true → is_some (t.store.notes name) ≡ true
  pub asked : (i : ℕ) (job : Job) → slice_get s.asked i ≡ Some job → slice_get t.asked i ≡ Some job

pub OnTheWay-kept : IsKept IsOnTheWay
OnTheWay-kept = record {
  same = λ s. record { objects = λ name bytes was. refl; notes = λ name was. was; asked = λ i job was. was };
  both = λ s t u f g. record {
    objects = λ name bytes was. g.objects name bytes (ap (λ o. option_and_then (if_named name) o) (f.objects name bytes was) ∙ was) ∙ f.objects name bytes was;
    notes = λ name was. g.notes name (f.notes name was);
    asked = λ i job was. g.asked i job (f.asked i job was);
  };
}

put-some : (test : Bool) (bytes : List ℕ) (o : Option (List ℕ)) → is_some o ≡ true → is_some (cond test (Some bytes) o) ≡ true
put-some true bytes o was = refl
put-some false bytes o was = was

pub OnTheWay-write : (write : Write) (s : State) → IsMade s.store write → IsOnTheWay s (state_after (make_write write s))
OnTheWay-write (Object own fresh) s none = record {
  objects = λ name bytes was.
      ap (λ (test : Bool). cond test (Some fresh) (s.store.objects name)) (eq_by_cmp-other name own (λ e. cc (sym was ∙ ap (held s.store.objects) e ∙ none)));
  notes = λ name was. was;
  asked = λ i job was. was;
}
OnTheWay-write (Note own fresh) s none = record {
  objects = λ name bytes was. refl;
  notes = λ name was. put-some (eq_by_cmp name_cmp name own) fresh (s.store.notes name) was;
  asked = λ i job was. was;
}

pub OnTheWay-mark : (name : ObjectName) (outputs : List ObjectName) → Keeps IsOnTheWay (mark name outputs)
OnTheWay-mark name outputs s = record { objects = λ name bytes was. refl; notes = λ name was. was; asked = λ i job was. was }

pub OnTheWay-step : (s : State) → IsOnTheWay s (state_after (step s))
OnTheWay-step s = record { objects = λ name bytes was. refl; notes = λ name was. was; asked = λ i job was. was }

pub OnTheWay-ask : (answer : ℕ → Job → Option Outcome) (text : List ℕ) (job : Job) → Keeps IsOnTheWay (ask answer text job)
OnTheWay-ask answer text job s =
    keeps-go_on IsOnTheWay OnTheWay-kept s (need (answer (length s.asked) job) (Stands text job) s) (λ outcome. note_asked job >>= λ _. give outcome)
    (keeps-need IsOnTheWay OnTheWay-kept (answer (length s.asked) job) (Stands text job) s)
    (λ outcome u. record { objects = λ name bytes was. refl; notes = λ name was. was; asked = λ i other was. get-prefix u.asked (job ∷ []) i other was })
