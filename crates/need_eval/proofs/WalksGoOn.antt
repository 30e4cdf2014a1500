-- Walks: they begin, go on and are supplied with outcomes.
use Rattle.std.proofs.Common.{◌≡◌, ℕ, ◌+◌, List, [], ◌∷◌, ◌++◌, Option, Result, Ok, Err, refl, sym, ap, subst, ◌∙◌, length, length-append, append_assoc, append-nil, arith}
use Rattle.object_name.specs.Name.{ObjectName}
use Rattle.thunk_codec.specs.declared.reference.Ref.{Ref}
use Rattle.thunk_codec.specs.declared.job.Job.{Job}
use Rattle.thunk_codec.specs.declared.job.Outcome.{Outcome}
use Rattle.blob_store.specs.Keeping.{Kept}
use Rattle.blob_store.specs.Store.{Write, written}
use Rattle.need_eval.specs.declared.evaluating.Values.{Values}
use Rattle.need_eval.specs.declared.fault.EvalFault.{EvalFault}
use Rattle.need_eval.specs.declared.prepared.Prepared.{Prepared}
use Rattle.need_eval.specs.declared.walker.Walked.TheVariants.{Ended as Over}
use Rattle.need_eval.specs.declared.walker.Walker.{Walker}
use Rattle.need_eval.specs.Eval.{State, Ended, Got, Stopped, go_on, give, start}
use Rattle.need_eval.specs.Evaluation.{values_of, by_list}
use Rattle.need_eval.specs.Machine.{resume}
use Rattle.need_eval.specs.WritePrefix.{state_after, Does}
use Rattle.need_eval.specs.Walking.{walking, left, IsFresh, GoesOn, Advances, Supplied, Supplies, HasSteps}
use Rattle.need_eval.specs.Walk.{Answers, IsWalk}
use Rattle.blob_store.proofs.PublicLaws.{written-append}
use Rattle.need_eval.proofs.StoreIsWritten.{resume-grows}
use Rattle.need_eval.proofs.StopsFromEarlier.{Does-earlier, unwritten-reading}
use Rattle.need_eval.proofs.JobsAskedFor.{resume-asks_no_more}
use Rattle.need_eval.proofs.ListsAnswer.{list-answers, answers-split}

nothing-before : {B : Type 0} (e : Ended (List B)) → e ≡ go_on e (λ ys. give ([] ++ ys))
nothing-before (Got ys s) = refl
nothing-before (Stopped why s) = refl

-- what is left where nothing was done
pub resume-all : (answer : ℕ → Job → Option Outcome) (budget : ℕ) (refs : List Ref) (s : State) → values_of answer budget refs s ≡ resume answer budget [] [] refs s
unfolding resume
resume-all answer budget refs s = nothing-before (values_of answer budget refs s)

unfoldable pub begins : (refs : List Ref) (budget : ℕ) (first : Kept) (w : Walker) → IsFresh refs budget w → IsWalk refs first [] w first
begins refs budget first w fresh = record {
  writes = [];
  asked = [];
  put = refl;
  list = sym (append-nil first.writes);
  number = refl;
  same = λ answer answers.
      let begun : start first.store ≡ walking w first.store [] [] =
      λ i. record { store = first.store; reduced = λ name. sym (fresh.reduced name) i; steps = sym fresh.steps i; writes = []; asked = [] } in
      resume-all answer w.budget refs (start first.store)
      ∙ ap (λ s. resume answer w.budget [] [] refs s) begun
      ∙ ap (λ rest. resume answer w.budget [] [] rest (walking w first.store [] [])) (sym fresh.rest)
      ∙ ap (λ done. resume answer w.budget [] done w.level.rest.items (walking w first.store [] [])) (sym fresh.done)
      ∙ ap (λ frames. resume answer w.budget frames w.level.done w.level.rest.items (walking w first.store [] [])) (sym fresh.frames);
}

unfoldable pub goes_on : (refs : List Ref) (first : Kept) (given : List Outcome) (w after : Walker) (now : Kept) → IsWalk refs first given w now → GoesOn w after now.store → after.budget ≡ w.budget → IsWalk refs first given after now
goes_on refs first given w after now walk goes budget = record {
  writes = walk.writes;
  asked = walk.asked;
  put = walk.put;
  list = walk.list;
  number = walk.number;
  same = λ answer answers.
      ap (λ budget. values_of answer budget refs (start first.store)) budget ∙ walk.same answer answers ∙ goes answer walk.writes walk.asked;
}

-- one more in each of two lists
pub one-more : {A B : Type 0} (xs : List A) (ys : List B) (x : A) (y : B) → length xs ≡ length ys → length (xs ++ x ∷ []) ≡ length (ys ++ y ∷ [])
one-more xs ys x y same = length-append xs (x ∷ []) ∙ ap (λ n. n + 1) same ∙ sym (length-append ys (y ∷ []))

unfoldable pub is_supplied : (refs : List Ref) (first : Kept) (given : List Outcome) (w after : Walker) (p : Prepared) (outcome : Outcome) (old now : Kept) → IsWalk refs first given w old → Supplied w after p outcome old now → after.budget ≡ w.budget → IsWalk refs first (given ++ outcome ∷ []) after now
is_supplied refs first given w after p outcome old now walk supplied budget = record {
  writes = walk.writes ++ supplied.made;
  asked = walk.asked ++ p.job ∷ [];
  put = supplied.put ∙ ap (λ store. written store supplied.made) walk.put ∙ sym (written-append first.store walk.writes supplied.made);
  list = supplied.list ∙ ap (λ (writes : List Write). writes ++ supplied.made) walk.list ∙ append_assoc first.writes walk.writes supplied.made;
  number = one-more walk.asked given p.job outcome walk.number;
  same = λ answer answers.
      let parts = answers-split answer 0 (length walk.asked) walk.asked given p.job outcome (omega arith) walk.number answers in
      ap (λ budget. values_of answer budget refs (start first.store)) budget ∙ walk.same answer parts.0 ∙ supplied.goes answer walk.writes walk.asked parts.1;
}

-- what the whole evaluation does with answers that begin with those given
module _ (refs : List Ref) (first : Kept) (given : List Outcome) (w : Walker) (now : Kept) (walk : IsWalk refs first given w now) (answer : ℕ → Job → Option Outcome) where
  -- the whole evaluation
  abbrev whole : Ended (List ObjectName)
  whole = values_of answer w.budget refs (start first.store)

  -- the state where the walker stands
  abbrev here : State
  here = walking w now.store walk.writes walk.asked

  pub walk-does : (later : Kept) (result : Result Values EvalFault) → Answers answer 0 walk.asked given → Does first.writes here (left answer w here) later result → Does first.writes (start first.store) whole later result
  walk-does later result answers does =
      subst (λ (e : Ended (List ObjectName)). Does first.writes (start first.store) e later result) (sym (walk.same answer answers))
      (Does-earlier first.writes (start first.store) here (left answer w here) later result (record { made = walk.writes; writes = refl; store = walk.put }) does)

  -- the values are there
  pub ends : (after : Walker) (values : Values) → Advances w after now.store (Ok (Over values)) → HasSteps after (Over values) → Answers answer 0 walk.asked given → Does first.writes (start first.store) whole now (Ok values)
  ends after values advances steps answers = walk-does now (Ok values) answers (
    record {
      last = walking after now.store walk.writes walk.asked;
      got = advances answer walk.writes walk.asked;
      steps_used = steps;
      store = refl;
    },
    walk.list ∙ ap (λ (writes : List Write). first.writes ++ writes) (sym (ap (λ e. (state_after e).writes) (advances answer walk.writes walk.asked))),
  )

  -- reading stopped
  pub stops : (after : Walker) (fault : EvalFault) → Advances w after now.store (Err fault) → Answers answer 0 walk.asked given → Does first.writes (start first.store) whole now (Err fault)
  stops after fault advances answers =
      walk-does now (Err fault) answers
      (unwritten-reading first.writes here (left answer w here) now fault (resume-grows answer w.budget w.frames.items w.level.done w.level.rest.items here) (record { store = refl; list = walk.list }) (advances answer walk.writes walk.asked))

  -- the outcome of the next job couldn't be taken
  pub stops_supplying : (after : Walker) (p : Prepared) (outcome : Outcome) (later : Kept) (fault : EvalFault) → Supplies w after p outcome now later (Err fault) → Answers answer 0 (walk.asked ++ p.job ∷ []) (given ++ outcome ∷ []) → Does first.writes (start first.store) whole later (Err fault)
  stops_supplying after p outcome later fault supplies answers =
      let parts = answers-split answer 0 (length walk.asked) walk.asked given p.job outcome (omega arith) walk.number answers in
      walk-does later (Err fault) parts.0 (supplies answer walk.writes walk.asked parts.1 first.writes walk.list)

-- with the outcomes given alone nothing more is asked for
pub walk-asks_no_more : (refs : List Ref) (first : Kept) (given : List Outcome) (w : Walker) (now : Kept) (walk : IsWalk refs first given w now) → (state_after (values_of (by_list given) w.budget refs (start first.store))).asked ≡ walk.asked
walk-asks_no_more refs first given w now walk =
    ap (λ e. (state_after e).asked) (walk.same (by_list given) (list-answers walk.asked given walk.number))
    ∙ resume-asks_no_more given w.budget w.frames.items w.level.done w.level.rest.items (walking w now.store walk.writes walk.asked) (omega (arith, walk.number))
