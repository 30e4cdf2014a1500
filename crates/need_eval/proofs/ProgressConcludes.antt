-- A walk with outcomes of a function: how it comes on, and what the whole evaluation did when it stops.
use Rattle.std.proofs.Common.{◌≡◌, ℕ, ◌+◌, List, [], ◌∷◌, ◌++◌, Option, Some, Result, Ok, Err, refl, sym, ap, subst, ◌∙◌, length, length-append, arith}
use Rattle.std.specs.List.{AllByRecursion}
use Rattle.object_name.specs.Name.{ObjectName}
use Rattle.thunk_codec.specs.declared.reference.Ref.{Ref}
use Rattle.thunk_codec.specs.declared.job.Job.{Job}
use Rattle.thunk_codec.specs.declared.job.Outcome.{Outcome}
use Rattle.thunk_codec.specs.Outcome.{Fits}
use Rattle.blob_store.specs.Keeping.{Kept}
use Rattle.blob_store.specs.Store.{Write}
use Rattle.need_eval.specs.declared.evaluating.Values.{Values}
use Rattle.need_eval.specs.declared.fault.EvalFault.{EvalFault}
use Rattle.need_eval.specs.declared.prepared.Prepared.{Prepared}
use Rattle.need_eval.specs.declared.walker.Walker.{Walker}
use Rattle.need_eval.specs.declared.walker.Walked.TheVariants.{Ended as Over}
use Rattle.need_eval.specs.Eval.{State, Ended, start}
use Rattle.need_eval.specs.Evaluation.{values_of, by_function, by_list}
use Rattle.need_eval.specs.WritePrefix.{state_after, IsAt, Does, AreAnswers}
use Rattle.need_eval.specs.StepContracts.{RunCause}
use Rattle.need_eval.specs.Walking.{walking, left, IsFresh, GoesOn, StandsAt, Supplied, Advances, Supplies}
use Rattle.need_eval.specs.Walk.{Answers}
use Rattle.need_eval.specs.Progress.{IsProgress, Evaluates}
use Rattle.need_eval.proofs.StoreIsWritten.{Grows, resume-grows}
use Rattle.need_eval.proofs.StopsFromEarlier.{unwritten-reading, unwritten-run}
use Rattle.need_eval.proofs.JobsAskedFor.{stands-asks, stands-asks_no_more}
use Rattle.need_eval.proofs.ListsAnswer.{list-answers, answers-more, are_answers-more, answers-split, told-among}
use Rattle.need_eval.proofs.WalksGoOn.{begins, goes_on, is_supplied, walk-does, walk-asks_no_more}

module _ (tells : Job → Type 0) (outcome : Job → Outcome) (budget : ℕ) (refs : List Ref) (first : Kept) where
  -- the whole evaluation
  abbrev whole : (ℕ → Job → Option Outcome) → Ended (List ObjectName)
  whole answer = values_of answer budget refs (start first.store)

  -- all jobs of the evaluation with the function are told
  abbrev AllTold : Type 0
  AllTold = AllByRecursion tells (state_after (whole (by_function outcome))).asked

  abbrev Progress : Walker → Kept → Type 0
  Progress w now = IsProgress tells outcome budget refs first w now

  pub progress-begins : (w : Walker) → IsFresh refs budget w → Progress w first
  unfolding begins
  progress-begins w fresh = record {
    budgets = fresh.budgets;
    given = [];
    walk = begins refs budget first w fresh;
    answers = tt;
    exact = λ told. tt;
  }

  pub progress-goes_on : (w after : Walker) (now : Kept) → Progress w now → GoesOn w after now.store → after.budget ≡ w.budget → Progress after now
  unfolding goes_on
  progress-goes_on w after now p goes same = record {
    budgets = same ∙ p.budgets;
    given = p.given;
    walk = goes_on refs first p.given w after now p.walk goes same;
    answers = p.answers;
    exact = p.exact;
  }

  module _ (w : Walker) (now : Kept) (p : Progress w now) where
    -- the state where the walker stands
    abbrev here : State
    here = walking w now.store p.walk.writes p.walk.asked

    -- the keeper is where the state is
    is-at : IsAt first.writes here now
    is-at = record { store = refl; list = p.walk.list }

    reached : (answer : ℕ → Job → Option Outcome) → Answers answer 0 p.walk.asked p.given → whole answer ≡ left answer w here
    reached answer answers =
        ap (λ budget. values_of answer budget refs (start first.store)) (sym p.budgets) ∙ p.walk.same answer answers

    left-grows : (answer : ℕ → Job → Option Outcome) → Grows here (state_after (left answer w here))
    left-grows answer = resume-grows answer w.budget w.frames.items w.level.done w.level.rest.items here

    whole-does : (answer : ℕ → Job → Option Outcome) (later : Kept) (result : Result Values EvalFault) → Answers answer 0 p.walk.asked p.given → Does first.writes here (left answer w here) later result → Does first.writes (start first.store) (whole answer) later result
    whole-does answer later result answers does =
        subst (λ (budget : ℕ). Does first.writes (start first.store) (values_of answer budget refs (start first.store)) later result) p.budgets
        (walk-does refs first p.given w now p.walk answer later result answers does)

    -- where the rest doesn't hang on further answers
    concludes : (later : Kept) (result : Result Values EvalFault) → ((answer : ℕ → Job → Option Outcome) → Does first.writes here (left answer w here) later result) → Evaluates tells outcome budget refs first later result
    concludes later result does =
        let listed = list-answers p.walk.asked p.given p.walk.number in
        let same : (state_after (whole (by_list p.given))).asked ≡ p.walk.asked =
        ap (λ budget. (state_after (values_of (by_list p.given) budget refs (start first.store))).asked) (sym p.budgets)
        ∙ walk-asks_no_more refs first p.given w now p.walk in (
          λ told. whole-does (by_function outcome) later result (p.exact told) (does (by_function outcome)),
          record {
            given = p.given;
            answers = subst (λ (jobs : List Job). AreAnswers tells outcome jobs p.given) (sym same) p.answers;
            does = whole-does (by_list p.given) later result listed (does (by_list p.given));
          },
        )

    pub concludes-values : (after : Walker) (later : Kept) (values : Values) → later ≡ now → Advances w after now.store (Ok (Over values)) → values.steps ≡ after.steps → Evaluates tells outcome budget refs first later (Ok values)
    concludes-values after later values same advances steps =
        concludes later (Ok values) (λ answer. (
          record {
            last = walking after now.store p.walk.writes p.walk.asked;
            got = advances answer p.walk.writes p.walk.asked;
            steps_used = steps;
            store = ap (λ (k : Kept). k.store) same;
          },
          ap (λ (k : Kept). k.writes) same ∙ p.walk.list ∙ ap (λ (writes : List Write). first.writes ++ writes) (sym (ap (λ e. (state_after e).writes) (advances answer p.walk.writes p.walk.asked))),
        ))

    pub concludes-reading : (after : Walker) (later : Kept) (fault : EvalFault) → later ≡ now → Advances w after now.store (Err fault) → Evaluates tells outcome budget refs first later (Err fault)
    concludes-reading after later fault same advances =
        subst (λ (k : Kept). Evaluates tells outcome budget refs first k (Err fault)) (sym same)
        (concludes now (Err fault) (λ answer. unwritten-reading first.writes here (left answer w here) now fault (left-grows answer) is-at (advances answer p.walk.writes p.walk.asked)))

    pub concludes-run : (before after : ℕ) (fault : EvalFault) → RunCause before after fault → Evaluates tells outcome budget refs first now (Err fault)
    concludes-run before after fault cause =
        concludes now (Err fault) (λ answer. unwritten-run first.writes here (left answer w here) now before after fault (left-grows answer) is-at cause)

    -- the walker waits at a job, and has an outcome of it
    module _ (q : Prepared) (stands : StandsAt w now.store q) (given : Outcome) (fits : Fits q.job given) (is_told : tells q.job → given ≡ outcome q.job) where
      -- where all jobs are told, it is the function's
      answers-as_told : AllTold → by_function outcome (length p.walk.asked) q.job ≡ Some given
      answers-as_told told =
          let more = stands-asks (by_function outcome) w now.store q p.walk.writes p.walk.asked (outcome q.job) stands refl in
          let jobs : (state_after (whole (by_function outcome))).asked ≡ (p.walk.asked ++ q.job ∷ []) ++ more.others =
          ap (λ e. (state_after e).asked) (reached (by_function outcome) (p.exact told)) ∙ more.list in
          ap (λ o. Some o) (sym (is_told (told-among tells p.walk.asked q.job more.others (subst (λ (jobs : List Job). AllByRecursion tells jobs) jobs told))))

      pub progress-is_supplied : (after : Walker) (later : Kept) → Supplied w after q given now later → after.budget ≡ w.budget → Progress after later
      unfolding is_supplied
      progress-is_supplied after later supplied same = record {
        budgets = same ∙ p.budgets;
        given = p.given ++ given ∷ [];
        walk = is_supplied refs first p.given w after q given now later p.walk supplied same;
        answers = are_answers-more tells outcome p.walk.asked p.given q.job given p.answers fits is_told;
        exact = λ told. answers-more (by_function outcome) 0 (length p.walk.asked) p.walk.asked p.given q.job given (omega arith) (p.exact told) (answers-as_told told);
      }

      pub concludes-supplying : (after : Walker) (later : Kept) (fault : EvalFault) → Supplies w after q given now later (Err fault) → Evaluates tells outcome budget refs first later (Err fault)
      concludes-supplying after later fault supplies =
          let all = p.given ++ given ∷ [] in
          let number : length (p.walk.asked ++ q.job ∷ []) ≡ length all =
          length-append p.walk.asked (q.job ∷ []) ∙ ap (λ n. n + 1) p.walk.number ∙ sym (length-append p.given (given ∷ [])) in
          let parts = answers-split (by_list all) 0 (length p.walk.asked) p.walk.asked p.given q.job given (omega arith) p.walk.number (list-answers (p.walk.asked ++ q.job ∷ []) all number) in
          let same : (state_after (whole (by_list all))).asked ≡ p.walk.asked ++ q.job ∷ [] =
          ap (λ e. (state_after e).asked) (reached (by_list all) parts.0)
          ∙ stands-asks_no_more all w now.store q p.walk.writes p.walk.asked given stands parts.1 (omega (arith, number)) in (
            λ told. whole-does (by_function outcome) later (Err fault) (p.exact told) (supplies (by_function outcome) p.walk.writes p.walk.asked (answers-as_told told) first.writes p.walk.list),
            record {
              given = all;
              answers = subst (λ (jobs : List Job). AreAnswers tells outcome jobs all) (sym same)
                  (are_answers-more tells outcome p.walk.asked p.given q.job given p.answers fits is_told);
              does = whole-does (by_list all) later (Err fault) parts.0 (supplies (by_list all) p.walk.writes p.walk.asked parts.1 first.writes p.walk.list);
            },
          )
