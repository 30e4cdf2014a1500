-- The counts of the jobs whose outcomes were not taken.
use Rattle.std.proofs.Common.{◌≡◌, ℕ, zero, suc, ◌+◌, ◌<◌, ◌≤◌, List, [], ◌∷◌, ◌++◌, length, get_or, set, Bool, true, false, not, ◌||◌, Option, Some, None, refl, ap, sym, ◌∙◌, arith, sum_by, cond}
use Rattle.std.specs.Prelude.{IfSome}
use Rattle.std.specs.List.{count_by}
use Rattle.std.specs.Option.{is_some}
use Rattle.std.proofs.lemmas.List.Sums.{sum_by-cons, sum_by-set, sum_by_push}
use Rattle.thunk_codec.specs.declared.job.Job.{Job}
use Rattle.thunk_codec.specs.Job.{job_size}
use Rattle.thunk_codec.specs.declared.job.Outcome.{Outcome}
use Rattle.job_wire.specs.declared.answer.Answer.{Answer}
use Rattle.lease_table.specs.Table.{alter}
use Rattle.std.proofs.lemmas.Bool.{false≢true}
use Rattle.force_core.specs.Book.{Task, IsTask, taken}
use Rattle.force_core.specs.Known.{is_untaken, untaken_size}

-- a test as a count
abbrev pub as_count : Bool → ℕ
as_count b = cond b 1 0

-- one job more, which waits
pub count-push : (tasks : List Task) (t : Task) → is_untaken t ≡ true → count_by is_untaken (tasks ++ t ∷ []) ≡ count_by is_untaken tasks + 1
count-push tasks t waits =
    let one : as_count (is_untaken t) ≡ 1 = ap as_count waits in
    omega (arith, sum_by_push (λ (t : Task). cond (is_untaken t) 1 0) tasks t, one)

pub bytes-push : (tasks : List Task) (t : Task) → is_untaken t ≡ true → sum_by untaken_size (tasks ++ t ∷ []) ≡ sum_by untaken_size tasks + job_size t.job
bytes-push tasks t waits =
    let all : untaken_size t ≡ job_size t.job = ap (λ (b : Bool). cond b (job_size t.job) 0) waits in
    omega (arith, sum_by_push untaken_size tasks t, all)

-- a job in another's place
pub count-set : (tasks : List Task) (id : ℕ) (t next : Task) → id < length tasks → t ≡ get_or tasks id t → count_by is_untaken (set tasks id next) + cond (is_untaken t) 1 0 ≡ count_by is_untaken tasks + cond (is_untaken next) 1 0
count-set tasks id t next below read =
    let one = sum_by-set (λ (t : Task). cond (is_untaken t) 1 0) tasks id next t below in
    rw (← read) at one

pub bytes-set : (tasks : List Task) (id : ℕ) (t next : Task) → id < length tasks → t ≡ get_or tasks id t → sum_by untaken_size (set tasks id next) + untaken_size t ≡ sum_by untaken_size tasks + untaken_size next
bytes-set tasks id t next below read =
    let one = sum_by-set untaken_size tasks id next t below in
    rw (← read) at one

-- a job that was not taken is counted
sum-at : {A : Type 0} (g : A → ℕ) (xs : List A) (i : ℕ) (x : A) → i < length xs → x ≡ get_or xs i x → g x ≤ sum_by g xs
sum-at g [] i x below read = absurd (omega arith)
sum-at g (y ∷ ys) zero x below read = rw read (omega (arith, sum_by-cons g y ys))
sum-at g (y ∷ ys) (suc i) x below read = omega (arith, sum_by-cons g y ys, sum-at g ys i x (omega arith) read)

pub count-at : (tasks : List Task) (id : ℕ) (t : Task) → id < length tasks → t ≡ get_or tasks id t → cond (is_untaken t) 1 0 ≤ count_by is_untaken tasks
count-at tasks id t below read = sum-at (λ (t : Task). cond (is_untaken t) 1 0) tasks id t below read

pub bytes-at : (tasks : List Task) (id : ℕ) (t : Task) → id < length tasks → t ≡ get_or tasks id t → untaken_size t ≤ sum_by untaken_size tasks
bytes-at tasks id t below read = sum-at untaken_size tasks id t below read

less-size : (a b : Bool) (n : ℕ) → cond b n 0 ≤ cond (a || b) n 0
less-size true true n = omega arith
less-size true false n = omega arith
less-size false b n = omega arith

-- taking makes no job count more
pub taken-size : (t : Task) → untaken_size (taken t) ≤ untaken_size t
taken-size t = less-size (is_some t.outcome) (not (is_some t.answer)) (job_size t.job)

-- a job without an outcome to be taken is left as it is
taken-none : (t : Task) → t.outcome ≡ None → taken t ≡ t
taken-none t none = ap (λ (o : Option Outcome). record { text = t.text; job = t.job; outcome = o; answer = t.answer }) (sym none)

none-by : {A : Type 0} → (o : Option A) → is_some o ≡ false → o ≡ None
none-by None is = refl
none-by (Some x) is = absurd (false≢true (sym is))

pub no-outcome : (t : Task) → is_some t.outcome ≡ false → t.outcome ≡ None
no-outcome t is = none-by t.outcome is

pub alter-none : (tasks : List Task) (id : ℕ) (t : Task) → id < length tasks → t ≡ get_or tasks id t → t.outcome ≡ None → alter taken tasks id ≡ tasks
alter-none [] id t below read none = absurd (omega arith)
alter-none (x ∷ xs) zero t below read none = ap (λ (y : Task). y ∷ xs) (taken-none x (ap (λ (t : Task). t.outcome) (sym read) ∙ none))
alter-none (x ∷ xs) (suc id) t below read none = ap (λ (ys : List Task). x ∷ ys) (alter-none xs id t (omega arith) read none)

-- one with an outcome to be taken waits
pub waits-with : (t : Task) → is_some t.outcome ≡ true → is_untaken t ≡ true
waits-with t is = rw is refl

-- one whose outcome was handed out waits no more
pub taken-gone : (tells : Job → Type 0) (outcome : Job → Outcome) (t : Task) (found : Option Outcome) → IsTask tells outcome t → found ≡ t.outcome → IfSome found (λ o. is_untaken (taken t) ≡ false)
taken-gone tells outcome t None is e = tt
taken-gone tells outcome t (Some o) is e = ap (λ (a : Option Answer). not (is_some a)) (is.answer_is o (sym e))

pub gone-by : (t next : Task) (found : Option Outcome) → is_some t.outcome ≡ true → found ≡ t.outcome → IfSome found (λ o. is_untaken next ≡ false) → is_untaken next ≡ false
gone-by t next None some is gone = absurd (false≢true (ap is_some is ∙ some))
gone-by t next (Some o) some is gone = gone

-- the counts without a job that waited
pub count-gone : (tasks : List Task) (id : ℕ) (t next : Task) → id < length tasks → t ≡ get_or tasks id t → is_untaken t ≡ true → is_untaken next ≡ false → count_by is_untaken (set tasks id next) + 1 ≡ count_by is_untaken tasks
count-gone tasks id t next below read waits gone =
    let one : as_count (is_untaken t) ≡ 1 = ap as_count waits in
    let none : as_count (is_untaken next) ≡ 0 = ap as_count gone in
    omega (arith, count-set tasks id t next below read, one, none)

pub bytes-gone : (tasks : List Task) (id : ℕ) (t next : Task) → id < length tasks → t ≡ get_or tasks id t → is_untaken t ≡ true → is_untaken next ≡ false → sum_by untaken_size (set tasks id next) + job_size t.job ≡ sum_by untaken_size tasks
bytes-gone tasks id t next below read waits gone =
    let all : untaken_size t ≡ job_size t.job = ap (λ (b : Bool). cond b (job_size t.job) 0) waits in
    let none : untaken_size next ≡ 0 = ap (λ (b : Bool). cond b (job_size next.job) 0) gone in
    omega (arith, bytes-set tasks id t next below read, all, none)
