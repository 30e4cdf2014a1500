-- Whatever a call that evaluates answers, it has made a prefix of the evaluation's writes, each of which it put once.
use Rattle.std.proofs.Common.{◌≡◌, inl, ℕ, List, [], ◌++◌, Option, Ok, Err, sym, ap, ◌∙◌, append_assoc, append-nil}
use Rattle.std.specs.Prelude.{Result}
use Rattle.object_name.specs.Name.{ObjectName}
use Rattle.thunk_codec.specs.declared.reference.Ref.{Ref}
use Rattle.thunk_codec.specs.declared.job.Job.{Job}
use Rattle.thunk_codec.specs.declared.job.Outcome.{Outcome}
use Rattle.blob_store.specs.Keeping.{Kept}
use Rattle.blob_store.specs.Store.{Write}
use Rattle.need_eval.specs.declared.fault.EvalFault.{EvalFault}
use Rattle.need_eval.specs.declared.fault.EvalFault.TheVariants as faults
use Rattle.need_eval.specs.declared.evaluating.Values.{Values}
use Rattle.need_eval.specs.Eval.{State, Ended, start}
use Rattle.need_eval.specs.Evaluation.{values_of}
use Rattle.need_eval.specs.WritePrefix.{state_after, IsWritePrefix, StopsPartWay, ListsAll, Does}
use Rattle.need_eval.proofs.StoreIsWritten.{Grows, values_of-grows}

whole : {A : Type 0} (first : List Write) (s : State) (e : Ended A) (now : Kept) → Grows s (state_after e) → now.store ≡ (state_after e).store → ListsAll first e now → StopsPartWay first s e now
whole first s e now grown same list = record {
  part = record { prefix = grown.made; others = []; list = grown.writes ∙ ap (λ made. s.writes ++ made) (sym (append-nil grown.made)); kept = same ∙ grown.store };
  listed = inl (list ∙ ap (λ (writes : List Write). first ++ writes) grown.writes ∙ sym (append_assoc first s.writes grown.made));
}

does-leave : (first : List Write) (s : State) (e : Ended (List ObjectName)) (now : Kept) (result : Result Values EvalFault) → Grows s (state_after e) → Does first s e now result → StopsPartWay first s e now
does-leave first s e now (Ok values) grown h = whole first s e now grown (h.0.store ∙ ap (λ e. (state_after e).store) (sym h.0.got)) h.1
does-leave first s e now (Err (faults.Refused refusal)) grown h = whole first s e now grown (h.0.store ∙ ap (λ e. (state_after e).store) (sym h.0.stopped)) h.1
does-leave first s e now (Err (faults.Clash name found fresh)) grown h = whole first s e now grown (h.0.store ∙ ap (λ e. (state_after e).store) (sym h.0.stopped)) h.1
does-leave first s e now (Err faults.StoreFailed) grown h = h
does-leave first s e now (Err faults.RunFailed) grown h = h
does-leave first s e now (Err faults.Memory) grown h = h

pub calls-leave : (answer : ℕ → Job → Option Outcome) (budget : ℕ) (refs : List Ref) (first now : Kept) (result : Result Values EvalFault) →
    Does first.writes (start first.store) (values_of answer budget refs (start first.store)) now result → StopsPartWay first.writes (start first.store) (values_of answer budget refs (start first.store)) now
calls-leave answer budget refs first now result =
    does-leave first.writes (start first.store) (values_of answer budget refs (start first.store)) now result (values_of-grows answer budget refs (start first.store))

pub calls-made : (answer : ℕ → Job → Option Outcome) (budget : ℕ) (refs : List Ref) (first now : Kept) (result : Result Values EvalFault) →
    Does first.writes (start first.store) (values_of answer budget refs (start first.store)) now result → IsWritePrefix (start first.store) (values_of answer budget refs (start first.store)) now.store
calls-made answer budget refs first now result does = (calls-leave answer budget refs first now result does).part
