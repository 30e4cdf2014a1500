-- What a call ensures, by what came of its parts.
use Rattle.std.proofs.Common.{◌≡◌, ◌≢◌, ℕ, List, [], ◌∷◌, ◌++◌, length, take, Bool, true, false, Result, Ok, Err, refl, sym, ap, ◌∙◌, arith, append-nil, append_assoc, inl}
use Rattle.std.specs.Prelude.{if◌then◌else◌}
use Rattle.std.specs.List.{AllZip}
use Rattle.std.proofs.lemmas.Bool.{false≢true}
use Rattle.object_name.specs.Name.{ObjectName}
use Rattle.object_name.specs.Causes.{Rose, RoseBy}
use Rattle.thunk_codec.specs.declared.reference.Ref.{Ref}
use Rattle.thunk_codec.specs.declared.job.Job.{Job}
use Rattle.thunk_codec.specs.declared.job.Outcome.{Outcome}
use Rattle.blob_store.specs.Store.{Store, Write}
use Rattle.blob_store.specs.Keeping.{Kept, kept}
use Rattle.need_eval.specs.declared.evaluating.Values.{Values}
use Rattle.need_eval.specs.declared.fault.EvalFault.{EvalFault}
use Rattle.need_eval.specs.declared.fault.EvalFault.TheVariants as evals
use Rattle.need_eval.specs.Eval.{State, Ended, start}
use Rattle.need_eval.specs.Evaluation.{values_of, by_function, by_list}
use Rattle.need_eval.specs.WritePrefix.{Does, EvalCause, StopsPartWay, state_after}
use Rattle.need_eval.specs.Progress.{Evaluates}
use Rattle.need_eval.specs.Evaluating.{EvaluatesAll, EvaluatesInFull}
use Rattle.need_eval.specs.StepContracts.{HasKeeperCause}
use Rattle.need_eval.proofs.StoreIsWritten.{Grows, values_of-grows}
use Rattle.need_eval.proofs.ClashesAreMet.{evaluates-in_full}
use Rattle.need_eval.proofs.EvaluateGoesRound.{cause-of_keeper}
use Rattle.force_core.specs.declared.event.Event.{Event}
use Rattle.force_core.specs.History.{start as book_start}
use Rattle.force_pool.specs.declared.worker_end.WorkerEnd.{WorkerEnd}
use Rattle.force_pool.specs.declared.worker_end.WorkerEnd.TheVariants as ends
use Rattle.force_pool.specs.declared.halt.Halt.{Halt}
use Rattle.force_pool.specs.declared.halt.Halt.TheVariants as halts
use Rattle.force_pool.specs.declared.fault.ForceFault.{ForceFault}
use Rattle.force_pool.specs.declared.fault.ForceFault.TheVariants.{Eval, Differs, LinksLost, Memory}
use Rattle.force_pool.specs.declared.report.Report.{Report}
use Rattle.force_pool.specs.Counting.{starts_of, firsts_of, losses_of}
use Rattle.force_pool.specs.Links.{Mark, IsBack, DiffersBy}
use Rattle.force_pool.specs.Sums.{Sum, Fits, Returns, ShowUntold}
use Rattle.force_pool.specs.Forcing.{as_evaluated}
use Rattle.force_pool.specs.Walks.{IsEvaluation, as_walked, halts_as}
use Rattle.force_pool.specs.Concluding.{conclusion, stopping, IsClosing, IsPoolEnd}
use Rattle.force_pool.proofs.WalksConclude.{walk-unbegun}

-- all that is written was
all-made : (before : List Write) (s : State) (e : Ended (List ObjectName)) (now : Kept) → Grows s (state_after e) → now.store ≡ (state_after e).store → now.writes ≡ before ++ (state_after e).writes → StopsPartWay before s e now
all-made before s e now grown store all = record {
  part = record {
    prefix = grown.made;
    others = [];
    list = grown.writes ∙ ap (λ (l : List Write). s.writes ++ l) (sym (append-nil grown.made));
    kept = store ∙ grown.store;
  };
  listed = inl (all ∙ ap (λ (l : List Write). before ++ l) grown.writes ∙ sym (append_assoc before s.writes grown.made));
}

-- however an evaluation ended, a prefix of its writes was made
does-memory : (before : List Write) (s : State) (e : Ended (List ObjectName)) (now : Kept) (r : Result Values EvalFault) → Grows s (state_after e) → Does before s e now r → StopsPartWay before s e now
does-memory before s e now (Ok values) grown d = all-made before s e now grown (d.0.store ∙ sym (ap (λ (x : Ended (List ObjectName)). (state_after x).store) d.0.got)) d.1
does-memory before s e now (Err (evals.Refused refusal)) grown d = all-made before s e now grown (d.0.store ∙ sym (ap (λ (x : Ended (List ObjectName)). (state_after x).store) d.0.stopped)) d.1
does-memory before s e now (Err (evals.Clash name found fresh)) grown d = all-made before s e now grown (d.0.store ∙ sym (ap (λ (x : Ended (List ObjectName)). (state_after x).store) d.0.stopped)) d.1
does-memory before s e now (Err evals.StoreFailed) grown d = d
does-memory before s e now (Err evals.RunFailed) grown d = d
does-memory before s e now (Err evals.Memory) grown d = d

evaluates-memory : (tells : Job → Type 0) (outcome : Job → Outcome) (budget : ℕ) (refs : List Ref) (first now : Kept) (r : Result Values EvalFault) → Evaluates tells outcome budget refs first now r → Evaluates tells outcome budget refs first now (Err evals.Memory)
evaluates-memory tells outcome budget refs first now r e = (
  λ told. does-memory first.writes (start first.store) (values_of (by_function outcome) budget refs (start first.store)) now r (values_of-grows (by_function outcome) budget refs (start first.store)) (e.0 told),
  record {
    given = e.1.given;
    answers = e.1.answers;
    does = does-memory first.writes (start first.store) (values_of (by_list e.1.given) budget refs (start first.store)) now r (values_of-grows (by_list e.1.given) budget refs (start first.store)) e.1.does;
  },
)

module _ {K : Type 0} (Told : Type 0) (store : K → Store) (writes : K → List Write) (faults : K → ℕ) (tells : Job → Type 0) (outcome : Job → Outcome) (budget retries : ℕ) (refs : List Ref) (first now : K) where
  abbrev Evaluation : Result Values EvalFault → Type 0
  Evaluation result = IsEvaluation Told store writes faults tells outcome budget retries refs first now result

  -- it is also an evaluation that stopped part way
  memory-evaluation : (r : Result Values EvalFault) → Evaluation r → Evaluation (Err evals.Memory)
  memory-evaluation r e = record {
    does = λ told. evaluates-memory tells outcome budget refs (kept store writes first) (kept store writes now) r (e.does told);
    cause = record { later = e.cause.later; cause = tt };
  }

  stopping-evaluation : (all_lost has_open : Bool) (why : WorkerEnd) → Evaluation (Err evals.Memory) → Evaluation (as_evaluated (Err (stopping all_lost has_open why)))
  stopping-evaluation all_lost has_open (ends.Differs resolved first second) e = e
  stopping-evaluation true true ends.Going e = e
  stopping-evaluation true false ends.Going e = e
  stopping-evaluation false has_open ends.Going e = e
  stopping-evaluation true true ends.GaveUp e = e
  stopping-evaluation true false ends.GaveUp e = e
  stopping-evaluation false has_open ends.GaveUp e = e
  stopping-evaluation true true ends.Memory e = e
  stopping-evaluation true false ends.Memory e = e
  stopping-evaluation false has_open ends.Memory e = e

  -- the answer of the call is that of the walk, or stops part way
  pub conclusion-evaluates : (memory all_lost has_open : Bool) (why : WorkerEnd) (walked : Result Values Halt) → Evaluation (as_walked walked)
      → Evaluation (as_evaluated (conclusion memory all_lost has_open why walked))
  conclusion-evaluates true all_lost has_open why (Ok values) e = memory-evaluation (Ok values) e
  conclusion-evaluates true all_lost has_open why (Err halt) e = memory-evaluation (Err (halts_as halt)) e
  conclusion-evaluates false all_lost has_open why (Ok values) e = e
  conclusion-evaluates false all_lost has_open why (Err (halts.Eval fault)) e = e
  conclusion-evaluates false all_lost has_open why (Err halts.Memory) e = e
  conclusion-evaluates false all_lost has_open why (Err halts.Stopped) e = stopping-evaluation all_lost has_open why e

-- what want of memory before the beginning is
pub unbegun-evaluates : {K : Type 0} (Told : Type 0) (store : K → Store) (writes : K → List Write) (faults : K → ℕ) (tells : Job → Type 0) (outcome : Job → Outcome) (budget retries : ℕ) (refs : List Ref) (first : K)
    → IsEvaluation Told store writes faults tells outcome budget retries refs first first (as_evaluated (Err Memory))
unbegun-evaluates Told store writes faults tells outcome budget retries refs first =
    walk-unbegun Told store writes faults tells outcome budget retries refs first

take-prefix : {A : Type 0} (xs ys : List A) → take (length xs) (xs ++ ys) ≡ xs
take-prefix [] ys = refl
take-prefix (x ∷ xs) ys = ap (λ (zs : List _). x ∷ zs) (take-prefix xs ys)

back-zip : (given back : List Mark) → AllZip Returns given back → AllZip IsBack given back
back-zip [] [] all = tt
back-zip [] (b ∷ bs) all = absurd all
back-zip (g ∷ gs) [] all = absurd all
back-zip (g ∷ gs) (b ∷ bs) all = (record { sent = ap (λ l. take (length g.sent) l) all.0.prefix ∙ take-prefix g.sent all.0.more; later = all.0.later }, back-zip gs bs all.1)

no-memory : (memory all_lost has_open : Bool) (why : WorkerEnd) (walked : Result Values Halt) → conclusion memory all_lost has_open why walked ≢ Err Memory → memory ≡ false
no-memory true all_lost has_open why walked other = absurd (other refl)
no-memory false all_lost has_open why walked other = refl

-- whether the answer is that the links are lost
abbrev is-lost : Result Values ForceFault → Bool
is-lost (Ok values) = false
is-lost (Err (Eval fault)) = false
is-lost (Err (Differs resolved first second)) = false
is-lost (Err LinksLost) = true
is-lost (Err Memory) = false

lost-by : (all_lost has_open : Bool) → is-lost (Err (if all_lost then (if has_open then LinksLost else Memory) else Memory)) ≡ true → (all_lost ≡ true) × (has_open ≡ true)
lost-by true true is = (refl, refl)
lost-by true false is = absurd (false≢true is)
lost-by false has_open is = absurd (false≢true is)

stopping-lost : (all_lost has_open : Bool) (why : WorkerEnd) → is-lost (Err (stopping all_lost has_open why)) ≡ true → (all_lost ≡ true) × (has_open ≡ true)
stopping-lost all_lost has_open (ends.Differs resolved first second) is = absurd (false≢true is)
stopping-lost all_lost has_open ends.Going is = lost-by all_lost has_open is
stopping-lost all_lost has_open ends.GaveUp is = lost-by all_lost has_open is
stopping-lost all_lost has_open ends.Memory is = lost-by all_lost has_open is

conclusion-is_lost : (memory all_lost has_open : Bool) (why : WorkerEnd) (walked : Result Values Halt) → is-lost (conclusion memory all_lost has_open why walked) ≡ true → (all_lost ≡ true) × (has_open ≡ true)
conclusion-is_lost true all_lost has_open why walked is = absurd (false≢true is)
conclusion-is_lost false all_lost has_open why (Ok values) is = absurd (false≢true is)
conclusion-is_lost false all_lost has_open why (Err (halts.Eval fault)) is = absurd (false≢true is)
conclusion-is_lost false all_lost has_open why (Err halts.Memory) is = absurd (false≢true is)
conclusion-is_lost false all_lost has_open why (Err halts.Stopped) is = stopping-lost all_lost has_open why is

-- links are lost only where each was given up and a job is open
conclusion-lost : (memory all_lost has_open : Bool) (why : WorkerEnd) (walked : Result Values Halt) → conclusion memory all_lost has_open why walked ≡ Err LinksLost → (all_lost ≡ true) × (has_open ≡ true)
conclusion-lost memory all_lost has_open why walked is = conclusion-is_lost memory all_lost has_open why walked (ap (λ (r : Result Values ForceFault). is-lost r) is)

module _ (tells : Job → Type 0) (retries : ℕ) (back : List Mark) where
  differs-by : (all_lost has_open : Bool) → DiffersBy tells back (Err (if all_lost then (if has_open then LinksLost else Memory) else Memory))
  differs-by true true = tt
  differs-by true false = tt
  differs-by false has_open = tt

  stopping-differs : (all_lost has_open : Bool) (why : WorkerEnd) → ShowUntold tells retries back why → DiffersBy tells back (Err (stopping all_lost has_open why))
  stopping-differs all_lost has_open (ends.Differs resolved first second) d = d
  stopping-differs all_lost has_open ends.Going d = differs-by all_lost has_open
  stopping-differs all_lost has_open ends.GaveUp d = differs-by all_lost has_open
  stopping-differs all_lost has_open ends.Memory d = differs-by all_lost has_open

  conclusion-differs : (memory all_lost has_open : Bool) (why : WorkerEnd) (walked : Result Values Halt) → ShowUntold tells retries back why → DiffersBy tells back (conclusion memory all_lost has_open why walked)
  conclusion-differs true all_lost has_open why walked d = tt
  conclusion-differs false all_lost has_open why (Ok values) d = tt
  conclusion-differs false all_lost has_open why (Err (halts.Eval fault)) d = tt
  conclusion-differs false all_lost has_open why (Err halts.Memory) d = tt
  conclusion-differs false all_lost has_open why (Err halts.Stopped) d = stopping-differs all_lost has_open why d

-- what the call ensures of its links and its report
pub pool-concludes : (tells : Job → Type 0) (workers retries copies : ℕ) (given : List Mark) (r : Report) (walked : Result Values Halt) (s : Sum) (has_open : Bool)
    → Fits tells retries given s
    → IsClosing workers retries copies r.history has_open
    → r.starts ≡ starts_of r.history → r.replies ≡ firsts_of r.history → r.losses ≡ losses_of r.history
    → s.starts ≡ starts_of r.history → s.losses ≡ losses_of r.history
    → IsPoolEnd tells workers retries copies given s.back r (conclusion s.memory s.all_lost has_open s.why walked)
pool-concludes tells workers retries copies given r walked s has_open fits closing starts replies losses starts_are losses_are = record {
  report = record { state = closing.state; legal = closing.legal; starts = starts; replies = replies; losses = losses };
  links = back-zip given s.back fits.links;
  lost = λ is. fits.lost (conclusion-lost s.memory s.all_lost has_open s.why walked is).0;
  open_job = λ is. record { state = closing.state; legal = closing.legal; some = closing.some (conclusion-lost s.memory s.all_lost has_open s.why walked is).1 };
  differs = conclusion-differs tells retries s.back s.memory s.all_lost has_open s.why walked fits.differs;
  numbers = λ other below.
      let m = no-memory s.memory s.all_lost has_open s.why walked other in
      record {
        sent = omega (arith, fits.sent, starts, starts_are);
        starts = omega (arith, fits.starts m below, starts, starts_are);
        losses = omega (arith, fits.losses m below, losses, losses_are);
      };
}

back-same : (given : List Mark) → AllZip IsBack given given
back-same [] = tt
back-same (g ∷ gs) = (record { sent = ap (λ l. take (length g.sent) l) (sym (append-nil g.sent)) ∙ take-prefix g.sent []; later = omega arith }, back-same gs)

-- the same where memory was refused before the beginning
pub unbegun-concludes : (tells : Job → Type 0) (workers retries copies : ℕ) (given : List Mark) (r : Report)
    → r.starts ≡ 0 → r.replies ≡ 0 → r.losses ≡ 0 → r.history ≡ [] → IsPoolEnd tells workers retries copies given given r (Err Memory)
unbegun-concludes tells workers retries copies given r starts replies losses history = record {
  report = record {
    state = book_start workers retries copies;
    legal = rw history refl;
    starts = starts ∙ sym (ap (λ (es : List Event). starts_of es) history);
    replies = replies ∙ sym (ap (λ (es : List Event). firsts_of es) history);
    losses = losses ∙ sym (ap (λ (es : List Event). losses_of es) history);
  };
  links = back-same given;
  lost = λ is. absurd (false≢true (ap (λ (x : Result Values ForceFault). is-lost x) is));
  open_job = λ is. absurd (false≢true (ap (λ (x : Result Values ForceFault). is-lost x) is));
  differs = tt;
  numbers = λ other below. absurd (other refl);
}

cause-of_eval : (retries before after : ℕ) (r : Result Values EvalFault) → HasKeeperCause retries before after r → EvalCause retries before after 0 0 r
cause-of_eval retries before after (Ok values) cause = tt
cause-of_eval retries before after (Err fault) cause = cause-of_keeper retries before before after 0 0 fault (omega arith) cause.cause

-- where the keeper's faults are few enough, it is the evaluation in full, or one that stopped part way
pub undisturbed-evaluates : (tells : Job → Type 0) (outcome : Job → Outcome) (budget retries : ℕ) (refs : List Ref) (first now : Kept) (before after : ℕ) (r : Result Values EvalFault)
    → EvaluatesAll tells outcome budget refs first now r → HasKeeperCause retries before after r → (RoseBy retries before after → ⊥) → EvaluatesInFull tells outcome budget refs first now r
undisturbed-evaluates tells outcome budget retries refs first now before after r does cause calm =
    evaluates-in_full tells outcome budget retries refs first now before after 0 0 r does (cause-of_eval retries before after r cause) calm (λ (rose : Rose 0 0). absurd (omega (arith, rose)))
