-- Lists of jobs and of their outcomes.
use Rattle.std.proofs.Common.{◌≡◌, ℕ, suc, ◌+◌, List, [], ◌∷◌, ◌++◌, Option, Some, refl, sym, ap, ◌∙◌, length, arith}
use Rattle.std.specs.List.{AllByRecursion}
use Rattle.thunk_codec.specs.declared.job.Job.{Job}
use Rattle.thunk_codec.specs.declared.job.Outcome.{Outcome}
use Rattle.thunk_codec.specs.Outcome.{Fits}
use Rattle.need_eval.specs.Evaluation.{by_function, by_list}
use Rattle.need_eval.specs.WritePrefix.{AreAnswers}
use Rattle.need_eval.specs.Walk.{Answers}

-- from the next place on
answers-next : (answer : ℕ → Job → Option Outcome) (place : ℕ) (asked : List Job) (given : List Outcome) → Answers (λ place. answer (suc place)) place asked given → Answers answer (suc place) asked given
answers-next answer place [] [] h = tt
answers-next answer place [] (o ∷ given) h = h
answers-next answer place (job ∷ asked) [] h = h
answers-next answer place (job ∷ asked) (o ∷ given) h = (h.0, answers-next answer (suc place) asked given h.1)

-- a list answers as many jobs as it is long
pub list-answers : (asked : List Job) (given : List Outcome) → length asked ≡ length given → Answers (by_list given) 0 asked given
list-answers [] [] number = tt
list-answers [] (o ∷ given) number = absurd (grind arith)
list-answers (job ∷ asked) [] number = absurd (grind arith)
list-answers (job ∷ asked) (o ∷ given) number =
    (refl, answers-next (by_list (o ∷ given)) 0 asked given (list-answers asked given (omega arith)))

-- a function answers the jobs whose outcomes it tells
pub function-answers : (tells : Job → Type 0) (outcome : Job → Outcome) (place : ℕ) (asked : List Job) (given : List Outcome) → AllByRecursion tells asked → AreAnswers tells outcome asked given → Answers (by_function outcome) place asked given
function-answers tells outcome place [] [] told h = tt
function-answers tells outcome place [] (o ∷ given) told h = h
function-answers tells outcome place (job ∷ asked) [] told h = h
function-answers tells outcome place (job ∷ asked) (o ∷ given) told h =
    (ap (λ o. Some o) (sym (h.0.1 told.0)), function-answers tells outcome (suc place) asked given told.1 h.1)

-- one job and outcome more
pub answers-more : (answer : ℕ → Job → Option Outcome) (place next : ℕ) (asked : List Job) (given : List Outcome) (job : Job) (o : Outcome) → next ≡ place + length asked → Answers answer place asked given → answer next job ≡ Some o → Answers answer place (asked ++ job ∷ []) (given ++ o ∷ [])
answers-more answer place next [] [] job o at h last =
    let same : place ≡ next = omega arith in (ap (λ place. answer place job) same ∙ last, tt)
answers-more answer place next [] (other ∷ given) job o at h last = absurd h
answers-more answer place next (first ∷ asked) [] job o at h last = absurd h
answers-more answer place next (first ∷ asked) (other ∷ given) job o at h last =
    (h.0, answers-more answer (suc place) next asked given job o (omega arith) h.1 last)

-- the answers to the jobs before the last, and to the last
pub answers-split : (answer : ℕ → Job → Option Outcome) (place next : ℕ) (asked : List Job) (given : List Outcome) (job : Job) (o : Outcome) → next ≡ place + length asked → length asked ≡ length given → Answers answer place (asked ++ job ∷ []) (given ++ o ∷ []) → Answers answer place asked given × (answer next job ≡ Some o)
answers-split answer place next [] [] job o at number h =
    let same : next ≡ place = omega arith in (tt, ap (λ place. answer place job) same ∙ h.0)
answers-split answer place next [] (other ∷ given) job o at number h = absurd (grind arith)
answers-split answer place next (first ∷ asked) [] job o at number h = absurd (grind arith)
answers-split answer place next (first ∷ asked) (other ∷ given) job o at number h =
    let rest = answers-split answer (suc place) next asked given job o (omega arith) (omega arith) h.1 in ((h.0, rest.0), rest.1)

pub are_answers-more : (tells : Job → Type 0) (outcome : Job → Outcome) (asked : List Job) (given : List Outcome) (job : Job) (o : Outcome) → AreAnswers tells outcome asked given → Fits job o → (tells job → o ≡ outcome job) → AreAnswers tells outcome (asked ++ job ∷ []) (given ++ o ∷ [])
are_answers-more tells outcome [] [] job o h fits told = ((fits, told), tt)
are_answers-more tells outcome [] (other ∷ given) job o h fits told = absurd h
are_answers-more tells outcome (first ∷ asked) [] job o h fits told = absurd h
are_answers-more tells outcome (first ∷ asked) (other ∷ given) job o h fits told =
    (h.0, are_answers-more tells outcome asked given job o h.1 fits told)

-- where all are told, one of them is
pub told-among : (tells : Job → Type 0) (asked : List Job) (job : Job) (others : List Job) → AllByRecursion tells ((asked ++ job ∷ []) ++ others) → tells job
told-among tells [] job others h = h.0
told-among tells (first ∷ asked) job others h = told-among tells asked job others h.1
