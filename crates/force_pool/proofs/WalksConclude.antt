-- How the caller's walk goes on and ends.
use Rattle.std.proofs.Common.{◌≡◌, ◌≤◌, ℕ, List, Result, Ok, Err, refl, ◌∙◌, arith}
use Rattle.std.specs.Prelude.{IfSome}
use Rattle.thunk_codec.specs.declared.reference.Ref.{Ref}
use Rattle.thunk_codec.specs.declared.job.Job.{Job}
use Rattle.thunk_codec.specs.declared.job.Outcome.{Outcome}
use Rattle.thunk_codec.specs.Outcome.{Fits}
use Rattle.blob_store.specs.Store.{Store, Write}
use Rattle.blob_store.specs.Keeping.{kept}
use Rattle.need_eval.specs.declared.evaluating.Values.{Values}
use Rattle.need_eval.specs.declared.fault.EvalFault.{EvalFault}
use Rattle.need_eval.specs.declared.fault.EvalFault.TheVariants as evals
use Rattle.need_eval.specs.declared.walker.Walker.{Walker}
use Rattle.need_eval.specs.declared.walker.Walked.{Walked}
use Rattle.need_eval.specs.declared.walker.Walked.TheVariants.{Ended, Blocked}
use Rattle.need_eval.specs.StepContracts.{OnlyReads, HasKeeperCause, KeeperCause}
use Rattle.need_eval.specs.Walking.{IsFresh, IsWalking, HasSetup, HasSteps, Advances, Supplies, StandsAt, Waits, blocked_at}
use Rattle.need_eval.specs.Progress.{IsProgress}
use Rattle.need_eval.proofs.ProgressConcludes.{progress-begins, concludes-reading, concludes-run}
use Rattle.need_eval.proofs.EvaluateGoesRound.{IsBetween, told-same, cause-of_reading, round-unbegun, round-ends, round-waits, round-supplied, round-stops}
use Rattle.force_pool.specs.declared.halt.Pause.{Pause}
use Rattle.force_pool.specs.declared.halt.Pause.TheVariants as pauses
use Rattle.force_pool.specs.Walks.{by_pause, halts_as, IsEvaluation, IsOnlyRead}

pub pause-halts : (pause : Pause) → halts_as (by_pause pause) ≡ evals.Memory
pause-halts pauses.Stopped = refl
pause-halts pauses.Memory = refl

keeper-earlier : (retries before mid after : ℕ) (fault : EvalFault) → before ≤ mid → KeeperCause retries mid after fault → KeeperCause retries before after fault
keeper-earlier retries before mid after (evals.Refused refusal) first cause = tt
keeper-earlier retries before mid after (evals.Clash name found fresh) first cause = cause
keeper-earlier retries before mid after evals.StoreFailed first cause = omega (arith, first, cause)
keeper-earlier retries before mid after evals.RunFailed first cause = absurd cause
keeper-earlier retries before mid after evals.Memory first cause = tt

module _ {K : Type 0} (Told : Type 0) (store : K → Store) (writes : K → List Write) (faults : K → ℕ) (tells : Job → Type 0) (outcome : Job → Outcome) (budget retries : ℕ) (refs : List Ref) (first : K) where
  -- the walk stands between two jobs
  abbrev pub Between : K → Walker → Type 0
  Between now w = IsBetween Told tells outcome budget retries refs (kept store writes first) (kept store writes now) (faults first) (faults now) 0 0 (Unit {0}) w

  abbrev Concludes : K → Result Values EvalFault → Type 0
  Concludes now result = IsEvaluation Told store writes faults tells outcome budget retries refs first now result

  -- memory was refused before the beginning
  pub walk-unbegun : Concludes first (Err evals.Memory)
  walk-unbegun = record {
    does = λ told. round-unbegun tells outcome budget refs (kept store writes first);
    cause = record { later = omega arith; cause = tt };
  }

  -- it begins
  pub walk-begins : (w : Walker) → IsFresh refs budget w → w.retries ≡ retries → IsWalking w → Between first w
  walk-begins w fresh tries walking = record {
    stands = walking;
    budgets = fresh.budgets;
    tries = tries;
    kept_later = omega arith;
    run_later = omega arith;
    tried = λ told. tt;
    progress = λ told. progress-begins tells outcome budget refs (kept store writes first) w fresh;
  }

  module _ (calls : K → ℕ) (mid : K) (w : Walker) (b : Between mid w) (now : K) (after : Walker) where
    -- it stops while it reads
    pub walk-stops_reading : (fault : EvalFault) → OnlyReads {A = Walked} Told store writes faults calls mid now w.retries (Err fault) → (Told → Advances w after (store mid) (Err fault)) → Concludes now (Err fault)
    walk-stops_reading fault only advances = record {
      does = λ told. concludes-reading tells outcome budget refs (kept store writes first) w (kept store writes mid) (b.progress told) after (kept store writes now) fault (told-same (kept store writes mid) (kept store writes now) (only.same told) (only.list told)) (advances told);
      cause = record {
        later = omega (arith, b.kept_later, only.later);
        cause = keeper-earlier retries (faults first) (faults mid) (faults now) fault b.kept_later (cause-of_reading retries (faults mid) (faults now) fault (rw b.tries at only.cause));
      };
    }

    -- it is at its end
    pub walk-ends : (walked : Walked) (values : Values) → walked ≡ Ended values → OnlyReads {A = Walked} Told store writes faults calls mid now w.retries (Ok walked) → (Told → Advances w after (store mid) (Ok walked)) → HasSteps after walked → Concludes now (Ok values)
    walk-ends walked values is only advances steps = record {
      does = λ told. round-ends tells outcome budget refs (kept store writes first) w after (kept store writes mid) (kept store writes now) (b.progress told) walked values is (told-same (kept store writes mid) (kept store writes now) (only.same told) (only.list told)) (advances told) steps;
      cause = record { later = omega (arith, b.kept_later, only.later); cause = tt };
    }

    module _ (walked : Walked) (is : walked ≡ Blocked) (only : OnlyReads {A = Walked} Told store writes faults calls mid now w.retries (Ok walked)) (advances : Told → Advances w after (store mid) (Ok walked)) (setup : HasSetup w after) (read : K) (r : IsOnlyRead Told store writes faults now read) where
      -- it waits at a job
      waits : Told → IsProgress tells outcome budget refs (kept store writes first) after (kept store writes read) × Waits after (store read)
      waits told = round-waits tells outcome budget refs (kept store writes first) w after (kept store writes mid) (kept store writes read) (b.progress told) walked is (told-same (kept store writes mid) (kept store writes read) (r.same told ∙ only.same told) (r.list told ∙ only.list told)) (advances told) setup.budget

      later : faults first ≤ faults read
      later = omega (arith, b.kept_later, only.later, r.later)

      -- no outcome comes
      pub walk-halts : Concludes read (Err evals.Memory)
      walk-halts = record {
        does = λ told. concludes-run tells outcome budget refs (kept store writes first) after (kept store writes read) (waits told).0 0 0 evals.Memory tt;
        cause = record { later = later; cause = tt };
      }

      module _ (given : Outcome) (fits : IfSome (blocked_at after) (λ p. Fits p.job given)) (is_told : IfSome (blocked_at after) (λ p. tells p.job → given ≡ outcome p.job)) (last : K) (supplied : Walker) where
        abbrev Supply : Result (Unit {0}) EvalFault → Type 0
        Supply result = Told → IfSome (blocked_at after) (λ p. StandsAt after (store read) p → Supplies after supplied p given (kept store writes read) (kept store writes last) result)

        -- it stops while it writes
        pub walk-stops_writing : (fault : EvalFault) → Supply (Err fault) → HasKeeperCause {A = Unit {0}} after.retries (faults read) (faults last) (Err fault) → Concludes last (Err fault)
        walk-stops_writing fault supplies cause = record {
          does = λ told. round-stops tells outcome budget refs (kept store writes first) after supplied (kept store writes read) (kept store writes last) (waits told).0 given (blocked_at after) fault (waits told).1 fits is_told (supplies told);
          cause = record {
            later = omega (arith, later, cause.later);
            cause = keeper-earlier retries (faults first) (faults read) (faults last) fault later (rw (setup.retries ∙ b.tries) at cause.cause);
          };
        }

        -- it goes on
        pub walk-goes_on : Supply (Ok tt) → HasKeeperCause {A = Unit {0}} after.retries (faults read) (faults last) (Ok tt) → IsWalking supplied → HasSetup after supplied → Between last supplied
        walk-goes_on supplies cause walking sets = record {
          stands = walking;
          budgets = sets.budget ∙ setup.budget ∙ b.budgets;
          tries = sets.retries ∙ setup.retries ∙ b.tries;
          kept_later = omega (arith, later, cause.later);
          run_later = omega arith;
          tried = λ told. tt;
          progress = λ told. round-supplied tells outcome budget refs (kept store writes first) after supplied (kept store writes read) (kept store writes last) (waits told).0 given (blocked_at after) (waits told).1 fits is_told (supplies told) sets.budget;
        }
