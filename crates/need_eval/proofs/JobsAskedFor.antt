-- The jobs whose outcome was asked for: their list only grows at its end, and no further than there are answers.
use Rattle.std.proofs.Common.{◌≡◌, ◌≤◌, ℕ, List, [], ◌∷◌, ◌++◌, Option, Some, None, refl, sym, ap, subst, ◌∙◌, append_assoc, append-nil, length}
use Rattle.std.proofs.lemmas.Bool.{le-leb}
use Rattle.std.proofs.lemmas.Option.{slice_get_past}
use Rattle.object_name.specs.Name.{ObjectName, name_of}
use Rattle.thunk_codec.specs.declared.reference.Ref.{Ref}
use Rattle.thunk_codec.specs.declared.job.Job.{Job}
use Rattle.thunk_codec.specs.declared.job.Outcome.{Outcome}
use Rattle.thunk_codec.specs.Thunk.{Parts, text_of}
use Rattle.thunk_codec.specs.Resolved.{resolved_by}
use Rattle.thunk_codec.specs.Job.{resolved_size, max_job}
use Rattle.blob_store.specs.Store.{Store, Write}
use Rattle.reduction_cache.specs.Hit.{hit_of}
use Rattle.need_eval.specs.declared.fault.Refusal.TheVariants.{TooBig}
use Rattle.need_eval.specs.declared.frame.Frame.{Frame}
use Rattle.need_eval.specs.declared.prepared.Prepared.{Prepared}
use Rattle.need_eval.specs.declared.walker.Walker.{Walker}
use Rattle.need_eval.specs.Eval.{State, Refused, Stands, Ended, Got, Eval, go_on, ◌>>=◌, give, check, need, step, make_write, note_asked, mark}
use Rattle.need_eval.specs.Evaluation.{job_of, finished, ask, outputs_of, reduce, values_of, by_list}
use Rattle.need_eval.specs.Machine.{resume}
use Rattle.need_eval.specs.WritePrefix.{state_after}
use Rattle.need_eval.specs.Walking.{walking, left, innermost, StandsAt}
use Rattle.need_eval.proofs.KeptRelations.{Keeps, IsKept, following, keeps-go_on, keeps-need, keeps-finished, keeps-following, keeps-values_of, keeps-resume}

-- some jobs more were asked for
pub record AsksMore (s t : State) : Type 0 where
  pub others : List Job
  pub list : t.asked ≡ s.asked ++ others

AsksMore-kept : IsKept AsksMore
AsksMore-kept = record {
  same = λ s. record { others = []; list = sym (append-nil s.asked) };
  both = λ s t u first then. record {
    others = first.others ++ then.others;
    list = then.list ∙ ap (λ jobs. jobs ++ then.others) first.list ∙ append_assoc s.asked first.others then.others;
  };
}

AsksMore-stay : (s t : State) → t.asked ≡ s.asked → AsksMore s t
AsksMore-stay s t same = record { others = []; list = same ∙ sym (append-nil s.asked) }

AsksMore-ask : (answer : ℕ → Job → Option Outcome) (text : List ℕ) (job : Job) → Keeps AsksMore (ask answer text job)
AsksMore-ask answer text job s =
    keeps-go_on AsksMore AsksMore-kept s (need (answer (length s.asked) job) (Stands text job) s) (λ outcome. note_asked job >>= λ _. give outcome)
    (keeps-need AsksMore AsksMore-kept (answer (length s.asked) job) (Stands text job) s)
    (λ outcome u. record { others = job ∷ []; list = refl })

-- where these answers are used up, no job more was asked for
abbrev pub AsksNoMore : List Outcome → State → State → Type 0
AsksNoMore given s t = length given ≤ length s.asked → t.asked ≡ s.asked

AsksNoMore-kept : (given : List Outcome) → IsKept (AsksNoMore given)
AsksNoMore-kept given = record {
  same = λ s used. refl;
  both = λ s t u first then used.
      then (subst (λ (jobs : List Job). length given ≤ length jobs) (sym (first used)) used) ∙ first used;
}

AsksNoMore-ask : (given : List Outcome) (text : List ℕ) (job : Job) → Keeps (AsksNoMore given) (ask (by_list given) text job)
AsksNoMore-ask given text job s used =
    ap (λ found. (state_after (go_on (need found (Stands text job) s) (λ outcome. note_asked job >>= λ _. give outcome))).asked) (slice_get_past given (length s.asked) used)

-- a whole evaluation
pub values_of-asks : (answer : ℕ → Job → Option Outcome) (budget : ℕ) (refs : List Ref) → Keeps AsksMore (values_of answer budget refs)
values_of-asks answer budget =
    keeps-values_of AsksMore AsksMore-kept (λ write s is_made. AsksMore-stay s (state_after (make_write write s)) refl)
    (λ name outputs s. AsksMore-stay s (state_after (mark name outputs s)) refl) answer (AsksMore-ask answer)
    budget (λ s below. AsksMore-stay s (state_after (step s)) refl)

-- what is left of one
pub resume-asks : (answer : ℕ → Job → Option Outcome) (budget : ℕ) (frames : List Frame) (done : List ObjectName) (rest : List Ref) → Keeps AsksMore (resume answer budget frames done rest)
resume-asks answer budget =
    keeps-resume AsksMore AsksMore-kept (λ write s is_made. AsksMore-stay s (state_after (make_write write s)) refl)
    (λ name outputs s. AsksMore-stay s (state_after (mark name outputs s)) refl) answer (AsksMore-ask answer)
    budget (λ s below. AsksMore-stay s (state_after (step s)) refl)

pub values_of-asks_no_more : (given : List Outcome) (budget : ℕ) (refs : List Ref) → Keeps (AsksNoMore given) (values_of (by_list given) budget refs)
values_of-asks_no_more given budget =
    keeps-values_of (AsksNoMore given) (AsksNoMore-kept given) (λ write s is_made used. refl) (λ name outputs s used. refl) (by_list given) (AsksNoMore-ask given)
    budget (λ s below used. refl)

pub resume-asks_no_more : (given : List Outcome) (budget : ℕ) (frames : List Frame) (done : List ObjectName) (rest : List Ref) → Keeps (AsksNoMore given) (resume (by_list given) budget frames done rest)
resume-asks_no_more given budget =
    keeps-resume (AsksNoMore given) (AsksNoMore-kept given) (λ write s is_made used. refl) (λ name outputs s used. refl) (by_list given) (AsksNoMore-ask given)
    budget (λ s below used. refl)

-- the state after one job more was asked for
abbrev pub asked_one : Job → State → State
asked_one job s = record s { asked = s.asked ++ job ∷ [] }

-- the outputs are noted for the rest of the evaluation
abbrev marking : ObjectName → List ObjectName → Eval (List ObjectName)
marking name outputs = mark name outputs >>= λ _. give outputs

-- a job of which no note is known is asked for
asking : (answer : ℕ → Job → Option Outcome) (name : ObjectName) (t : Parts) (s : State) (job : Job) (outcome : Outcome) → resolved_size t ≤ max_job → hit_of s.store (name_of (text_of t)) (length t.outputs) ≡ None → job_of t s ≡ Got job s → answer (length s.asked) job ≡ Some outcome → reduce answer name t s ≡ go_on (finished name t outcome (asked_one job s)) (marking name)
unfolding reduce
asking answer name t s job outcome small no_hit jobs answered =
    ap (λ test. go_on (check test (Refused (TooBig name (resolved_size t))) s) (λ _ u. go_on (outputs_of answer name t (hit_of u.store (name_of (text_of t)) (length t.outputs)) u) (marking name))) (le-leb (resolved_size t) max_job small)
    ∙ ap (λ hit. go_on (outputs_of answer name t hit s) (marking name)) no_hit
    ∙ ap (λ e. go_on (go_on e (λ job. ask answer (text_of t) job >>= finished name t)) (marking name)) jobs
    ∙ ap (λ found. go_on (go_on (go_on (need found (Stands (text_of t) job) s) (λ outcome. note_asked job >>= λ _. give outcome)) (finished name t)) (marking name)) answered

-- the innermost thunk is reduced, where its values are all there
innermost-reduced : (answer : ℕ → Job → Option Outcome) (budget : ℕ) (inner : Frame) (outer : List Frame) (done : List ObjectName) (s : State) → resume answer budget (inner ∷ outer) done [] s ≡ go_on (reduce answer inner.name (innermost inner done) s) (following answer budget inner outer)
unfolding resume
innermost-reduced answer budget inner outer done s =
    ap (λ values. go_on (reduce answer inner.name (resolved_by inner.thunk values) s) (following answer budget inner outer)) (append-nil done)

-- what evaluations keep holds from the asking on
module _ (R : State → State → Type 0) (kept : IsKept R) (writes : (write : Write) (s : State) → R s (state_after (make_write write s))) (marks : (name : ObjectName) (outputs : List ObjectName) (s : State) → R s (state_after (mark name outputs s))) (answer : ℕ → Job → Option Outcome) (asks : (text : List ℕ) (job : Job) → Keeps R (ask answer text job)) (steps : (s : State) → R s (state_after (step s))) where
  keeps-asked : (budget : ℕ) (inner : Frame) (outer : List Frame) (done : List ObjectName) (s : State) (job : Job) (outcome : Outcome) → reduce answer inner.name (innermost inner done) s ≡ go_on (finished inner.name (innermost inner done) outcome (asked_one job s)) (marking inner.name) → R (asked_one job s) (state_after (resume answer budget (inner ∷ outer) done [] s))
  keeps-asked budget inner outer done s job outcome reduced =
      let t = innermost inner done in
      let u = asked_one job s in
      let e = finished inner.name t outcome u in
      subst (λ (e : Ended (List ObjectName)). R u (state_after e))
      (sym (innermost-reduced answer budget inner outer done s ∙ ap (λ e. go_on e (following answer budget inner outer)) reduced))
      (keeps-go_on R kept u (go_on e (marking inner.name)) (following answer budget inner outer)
      (keeps-go_on R kept u e (marking inner.name) (keeps-finished R kept (λ write s is_made. writes write s) inner.name t outcome u)
      (λ outputs v. marks inner.name outputs v))
      (keeps-following R kept (λ write s is_made. writes write s) marks answer asks budget (λ s below. steps s) inner outer))

  -- of a walker that waits at a job
  pub keeps-stands : (w : Walker) (store : Store) (p : Prepared) (made : List Write) (asked : List Job) (outcome : Outcome) → StandsAt w store p → answer (length asked) p.job ≡ Some outcome → R (asked_one p.job (walking w store made asked)) (state_after (left answer w (walking w store made asked)))
  keeps-stands w store p made asked outcome stands answered =
      let s = walking w store made asked in
      let at : R (asked_one p.job s) (state_after (resume answer w.budget (stands.inner ∷ stands.outer) w.level.done [] s)) =
      keeps-asked w.budget stands.inner stands.outer w.level.done s p.job outcome
      (asking answer stands.inner.name (innermost stands.inner w.level.done) s p.job outcome stands.small stands.no_hit (stands.job s refl) answered) in
      let with_frames : R (asked_one p.job s) (state_after (resume answer w.budget w.frames.items w.level.done [] s)) =
      subst (λ (frames : List Frame). R (asked_one p.job s) (state_after (resume answer w.budget frames w.level.done [] s))) (sym stands.frames) at in
      subst (λ (rest : List Ref). R (asked_one p.job s) (state_after (resume answer w.budget w.frames.items w.level.done rest s))) (sym stands.no_rest) with_frames

-- the job of a walker that waits is asked for next
pub stands-asks : (answer : ℕ → Job → Option Outcome) (w : Walker) (store : Store) (p : Prepared) (made : List Write) (asked : List Job) (outcome : Outcome) → StandsAt w store p → answer (length asked) p.job ≡ Some outcome → AsksMore (asked_one p.job (walking w store made asked)) (state_after (left answer w (walking w store made asked)))
stands-asks answer =
    keeps-stands AsksMore AsksMore-kept (λ write s. AsksMore-stay s (state_after (make_write write s)) refl)
    (λ name outputs s. AsksMore-stay s (state_after (mark name outputs s)) refl) answer (AsksMore-ask answer)
    (λ s. AsksMore-stay s (state_after (step s)) refl)

-- and no job after it, where its outcome was the last
pub stands-asks_no_more : (given : List Outcome) (w : Walker) (store : Store) (p : Prepared) (made : List Write) (asked : List Job) (outcome : Outcome) → StandsAt w store p → by_list given (length asked) p.job ≡ Some outcome → AsksNoMore given (asked_one p.job (walking w store made asked)) (state_after (left (by_list given) w (walking w store made asked)))
stands-asks_no_more given =
    keeps-stands (AsksNoMore given) (AsksNoMore-kept given) (λ write s used. refl) (λ name outputs s used. refl) (by_list given) (AsksNoMore-ask given) (λ s used. refl)
