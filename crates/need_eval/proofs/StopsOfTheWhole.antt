-- What was done up to a fault of a part, seen from the whole.
use Rattle.std.proofs.Common.{ℕ, List, [], ◌∷◌, ◌++◌, Option, refl, sym, ap, subst, ◌∙◌, append_assoc}
use Rattle.std.specs.Prelude.{slice_get}
use Rattle.object_name.specs.Name.{ObjectName}
use Rattle.thunk_codec.specs.declared.job.Job.{Job}
use Rattle.thunk_codec.specs.declared.job.Outcome.{Outcome}
use Rattle.thunk_codec.specs.Resolved.{resolved_by}
use Rattle.blob_store.specs.Keeping.{Kept}
use Rattle.blob_store.specs.Store.{Write}
use Rattle.need_eval.specs.declared.fault.Refusal.TheVariants.{NoOutput}
use Rattle.need_eval.specs.declared.fault.EvalFault.{EvalFault}
use Rattle.need_eval.specs.declared.fault.EvalFault.TheVariants as faults
use Rattle.need_eval.specs.declared.frame.Frame.{Frame}
use Rattle.need_eval.specs.Eval.{State, Stop, Refused, Clash, Ended, Got, Stopped, Eval, go_on}
use Rattle.need_eval.specs.Evaluation.{reduce, passed, value_of}
use Rattle.need_eval.specs.Machine.{resume}
use Rattle.need_eval.specs.WritePrefix.{state_after, StopsWith, StopsPartWay, ListsAll, Stops}
use Rattle.need_eval.proofs.KeptRelations.{Keeps, keeps-go_on, keeps-need, keeps-passed, keeps-value_of}
use Rattle.need_eval.proofs.StoreIsWritten.{Grows, Grows-kept, Grows-same, Grows-write, Grows-stay, Grows-mark, Grows-ask, resume-grows}
use Rattle.need_eval.proofs.ReadingStops.{StopsWith-go_on}
use Rattle.need_eval.proofs.OneTurn.{pick, after_leaving, turn-leave-ends}

-- what follows only grows
grows-on : {A B : Type 0} (e : Ended A) (f : A → Eval B) → ((x : A) → Keeps Grows (f x)) → Grows (state_after e) (state_after (go_on e f))
grows-on (Got x t) f all = all x t
grows-on (Stopped why t) f all = Grows-same t

-- a prefix of what is written is a prefix of what is written with all that follows
part_way-on : {A B : Type 0} (first : List Write) (s : State) (e : Ended A) (f : A → Eval B) (now : Kept) → ((x : A) → Keeps Grows (f x)) → StopsPartWay first s e now → StopsPartWay first s (go_on e f) now
part_way-on first s e f now all h =
    let more = grows-on e f all in
    record {
      part = record {
        prefix = h.part.prefix;
        others = h.part.others ++ more.made;
        list = more.writes ∙ ap (λ writes. writes ++ more.made) h.part.list
            ∙ append_assoc s.writes (h.part.prefix ++ h.part.others) more.made
            ∙ ap (λ rest. s.writes ++ rest) (append_assoc h.part.prefix h.part.others more.made);
        kept = h.part.kept;
      };
      listed = h.listed;
    }

-- where it stopped nothing more is written
stop-on : {A B : Type 0} (first : List Write) (why : Stop) (e : Ended A) (f : A → Eval B) (now : Kept) → StopsWith why e now.store × ListsAll first e now → StopsWith why (go_on e f) now.store × ListsAll first (go_on e f) now
stop-on first why e f now h = (
  StopsWith-go_on f why e now.store h.0,
  h.1 ∙ ap (λ (writes : List Write). first ++ writes) (ap (λ e. (state_after e).writes) h.0.stopped ∙ sym (ap (λ e. (state_after (go_on e f)).writes) h.0.stopped)),
)

-- what was done up to a fault, of the whole
pub Stops-on : {A B : Type 0} (first : List Write) (s : State) (e : Ended A) (f : A → Eval B) (now : Kept) (fault : EvalFault) → ((x : A) → Keeps Grows (f x)) → Stops first s e now fault → Stops first s (go_on e f) now fault
Stops-on first s e f now (faults.Refused refusal) all h = stop-on first (Refused refusal) e f now h
Stops-on first s e f now (faults.Clash name found fresh) all h = stop-on first (Clash name found fresh) e f now h
Stops-on first s e f now faults.StoreFailed all h = part_way-on first s e f now all h
Stops-on first s e f now faults.RunFailed all h = part_way-on first s e f now all h
Stops-on first s e f now faults.Memory all h = part_way-on first s e f now all h

module _ (answer : ℕ → Job → Option Outcome) (budget : ℕ) where
  -- what follows the outputs of the innermost thunk
  leaving-grows : (inner : Frame) (outer : List Frame) (outputs : List ObjectName) → Keeps Grows (after_leaving answer budget inner outer outputs)
  leaving-grows inner outer outputs s =
      keeps-go_on Grows Grows-kept s (pick inner.name inner.index outputs s) _
      (keeps-need Grows Grows-kept (slice_get outputs inner.index) (Refused (NoOutput inner.name inner.index)) s)
      (λ output t. keeps-go_on Grows Grows-kept t (passed answer budget (value_of answer budget) output.kind output t) (λ value. resume answer budget outer (inner.outer.done ++ value ∷ []) inner.outer.rest.items)
      (keeps-passed Grows Grows-kept Grows-write Grows-mark answer (Grows-ask answer) budget (λ u below. Grows-stay u _ refl refl) (value_of answer budget)
      (keeps-value_of Grows Grows-kept Grows-write Grows-mark answer (Grows-ask answer) budget (λ u below. Grows-stay u _ refl refl)) output.kind output t)
      (λ value. resume-grows answer budget outer (inner.outer.done ++ value ∷ []) inner.outer.rest.items))

  -- the innermost thunk stops: so does the whole
  pub turn-leave-faults : (inner : Frame) (outer : List Frame) (done : List ObjectName) (first : List Write) (s : State) (now : Kept) (fault : EvalFault) → Stops first s (reduce answer inner.name (resolved_by inner.thunk done) s) now fault → Stops first s (resume answer budget (inner ∷ outer) done [] s) now fault
  turn-leave-faults inner outer done first s now fault h =
      subst (λ (e : Ended (List ObjectName)). Stops first s e now fault) (sym (turn-leave-ends answer budget inner outer done s))
      (Stops-on first s (reduce answer inner.name (resolved_by inner.thunk done) s) (after_leaving answer budget inner outer) now fault (leaving-grows inner outer) h)
