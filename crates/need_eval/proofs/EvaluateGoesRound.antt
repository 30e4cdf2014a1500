-- A whole evaluation goes round: to a job, through its run, and on with its outcome.
use Rattle.std.proofs.Common.{◌≡◌, ◌≤◌, ℕ, List, [], Option, Some, None, Ok, Err, refl, sym, subst, append-nil, arith}
use Rattle.std.specs.Prelude.{IfSome}
use Rattle.thunk_codec.specs.declared.reference.Ref.{Ref}
use Rattle.thunk_codec.specs.declared.job.Job.{Job}
use Rattle.thunk_codec.specs.declared.job.Outcome.{Outcome}
use Rattle.thunk_codec.specs.Outcome.{Fits}
use Rattle.blob_store.specs.Keeping.{Kept}
use Rattle.need_eval.specs.declared.evaluating.Values.{Values}
use Rattle.need_eval.specs.declared.fault.EvalFault.{EvalFault}
use Rattle.need_eval.specs.declared.fault.EvalFault.TheVariants as faults
use Rattle.need_eval.specs.declared.prepared.Prepared.{Prepared}
use Rattle.need_eval.specs.declared.walker.Walker.{Walker}
use Rattle.need_eval.specs.declared.walker.Walked.{Walked}
use Rattle.need_eval.specs.declared.walker.Walked.TheVariants.{Ended, Blocked}
use Rattle.need_eval.specs.Eval.{start}
use Rattle.need_eval.specs.Evaluation.{by_list}
use Rattle.need_eval.specs.WritePrefix.{IsAt, AreAnswers, EvalCause}
use Rattle.need_eval.specs.StepContracts.{KeeperCause, ReadCause, RunCause}
use Rattle.need_eval.specs.Walking.{IsWalking, Advances, Supplies, StandsAt, Waits, WaitsFor, GoesOn, HasSteps}
use Rattle.need_eval.specs.Progress.{IsProgress, Evaluates}
use Rattle.need_eval.proofs.StoreIsWritten.{values_of-grows}
use Rattle.need_eval.proofs.StopsFromEarlier.{part_way-unwritten}
use Rattle.need_eval.proofs.JobsAskedFor.{values_of-asks_no_more}
use Rattle.need_eval.proofs.ProgressConcludes.{progress-goes_on, progress-is_supplied, concludes-values, concludes-supplying}

-- a keeper that only was read tells what it told
pub told-same : (old now : Kept) → now.store ≡ old.store → now.writes ≡ old.writes → now ≡ old
told-same old now store writes = λ i. record { store = store i; writes = writes i }

-- an evaluation stands between two jobs
pub record IsBetween (Told : Type 0) (tells : Job → Type 0) (outcome : Job → Outcome) (budget retries : ℕ) (refs : List Ref) (first now : Kept) (kept_before kept_after run_before run_after : ℕ) (Tried : Type 0) (w : Walker) : Type 0 where
  pub stands : IsWalking w
  pub budgets : w.budget ≡ budget
  pub tries : w.retries ≡ retries
  pub kept_later : kept_before ≤ kept_after
  pub run_later : run_before ≤ run_after
  pub tried : Told → Tried
  pub progress : Told → IsProgress tells outcome budget refs first w now

-- what only reads meets no clash
pub cause-of_reading : (retries before after : ℕ) (fault : EvalFault) → ReadCause retries before after fault → KeeperCause retries before after fault
cause-of_reading retries before after (faults.Refused refusal) cause = cause
cause-of_reading retries before after (faults.Clash name found fresh) cause = absurd cause
cause-of_reading retries before after faults.StoreFailed cause = cause
cause-of_reading retries before after faults.RunFailed cause = cause
cause-of_reading retries before after faults.Memory cause = cause

-- the causes of faults, from the start on
pub cause-of_keeper : (retries before mid after run_before run_after : ℕ) (fault : EvalFault) → before ≤ mid → KeeperCause retries mid after fault → EvalCause retries before after run_before run_after (Err fault)
cause-of_keeper retries before mid after run_before run_after (faults.Refused refusal) first cause = tt
cause-of_keeper retries before mid after run_before run_after (faults.Clash name found fresh) first cause = tt
cause-of_keeper retries before mid after run_before run_after faults.StoreFailed first cause = omega (arith, first, cause)
cause-of_keeper retries before mid after run_before run_after faults.RunFailed first cause = absurd cause
cause-of_keeper retries before mid after run_before run_after faults.Memory first cause = tt

pub cause-of_run : (retries kept_before kept_after before mid after : ℕ) (fault : EvalFault) → before ≤ mid → RunCause mid after fault → EvalCause retries kept_before kept_after before after (Err fault)
cause-of_run retries kept_before kept_after before mid after (faults.Refused refusal) first cause = absurd cause
cause-of_run retries kept_before kept_after before mid after (faults.Clash name found fresh) first cause = absurd cause
cause-of_run retries kept_before kept_after before mid after faults.StoreFailed first cause = absurd cause
cause-of_run retries kept_before kept_after before mid after faults.RunFailed first cause = omega (arith, first, cause)
cause-of_run retries kept_before kept_after before mid after faults.Memory first cause = tt

module _ (tells : Job → Type 0) (outcome : Job → Outcome) (budget : ℕ) (refs : List Ref) (first : Kept) where
  -- the keeper is where the evaluation begins
  begun : IsAt first.writes (start first.store) first
  begun = record { store = refl; list = sym (append-nil first.writes) }

  -- memory was refused before the beginning
  pub round-unbegun : Evaluates tells outcome budget refs first first (Err faults.Memory)
  round-unbegun = (
    λ told. part_way-unwritten first.writes (start first.store) _ first (values_of-grows _ budget refs (start first.store)) begun,
    record {
      given = [];
      answers = subst (λ (jobs : List Job). AreAnswers tells outcome jobs []) (sym (values_of-asks_no_more [] budget refs (start first.store) (omega arith))) tt;
      does = part_way-unwritten first.writes (start first.store) _ first (values_of-grows (by_list []) budget refs (start first.store)) begun;
    },
  )

  module _ (w after : Walker) (now later : Kept) (p : IsProgress tells outcome budget refs first w now) where
    -- the values are there
    pub round-ends : (walked : Walked) (values : Values) → walked ≡ Ended values → later ≡ now → Advances w after now.store (Ok walked) → HasSteps after walked → Evaluates tells outcome budget refs first later (Ok values)
    round-ends walked values is same advances steps =
        concludes-values tells outcome budget refs first w now p after later values same
        (subst (λ (walked : Walked). Advances w after now.store (Ok walked)) is advances)
        (subst (λ (walked : Walked). HasSteps after walked) is steps)

    -- it waits at a job
    pub round-waits : (walked : Walked) → walked ≡ Blocked → later ≡ now → Advances w after now.store (Ok walked) → after.budget ≡ w.budget → IsProgress tells outcome budget refs first after later × Waits after later.store
    round-waits walked is same advances budgets =
        let at : GoesOn w after now.store × Waits after now.store = subst (λ (walked : Walked). Advances w after now.store (Ok walked)) is advances in
        subst (λ (k : Kept). IsProgress tells outcome budget refs first after k × Waits after k.store) (sym same)
        (progress-goes_on tells outcome budget refs first w after now p at.0 budgets, at.1)

    module _ (given : Outcome) where
      -- the outcome was taken
      pub round-supplied : (waiting : Option Prepared) → WaitsFor waiting w now.store → IfSome waiting (λ q. Fits q.job given) → IfSome waiting (λ q. tells q.job → given ≡ outcome q.job) → IfSome waiting (λ q. StandsAt w now.store q → Supplies w after q given now later (Ok tt)) → after.budget ≡ w.budget → IsProgress tells outcome budget refs first after later
      round-supplied None waits fits told supplies budgets = absurd waits
      round-supplied (Some q) waits fits told supplies budgets =
          progress-is_supplied tells outcome budget refs first w now p q waits given fits told after later (supplies waits) budgets

      pub round-stops : (waiting : Option Prepared) (fault : EvalFault) → WaitsFor waiting w now.store → IfSome waiting (λ q. Fits q.job given) → IfSome waiting (λ q. tells q.job → given ≡ outcome q.job) → IfSome waiting (λ q. StandsAt w now.store q → Supplies w after q given now later (Err fault)) → Evaluates tells outcome budget refs first later (Err fault)
      round-stops None fault waits fits told supplies = absurd waits
      round-stops (Some q) fault waits fits told supplies =
          concludes-supplying tells outcome budget refs first w now p q waits given fits told after later fault (supplies waits)
