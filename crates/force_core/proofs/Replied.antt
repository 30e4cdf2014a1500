-- What an outcome leaves of its job, and of the counts.
use Rattle.std.proofs.Common.{◌≡◌, ℕ, ◌<◌, List, length, get_or, set, Bool, true, false, ◌||◌, cond, None, refl, ap, ◌∙◌, arith, sum_by}
use Rattle.std.specs.List.{count_by}
use Rattle.std.specs.Option.{is_some}
use Rattle.thunk_codec.specs.declared.job.Job.{Job}
use Rattle.thunk_codec.specs.declared.job.Outcome.{Outcome}
use Rattle.thunk_codec.specs.Job.{job_size}
use Rattle.force_core.specs.declared.reply.Reply.{Reply}
use Rattle.force_core.specs.declared.reply.Reply.TheVariants as replies
use Rattle.force_core.specs.Book.{Task}
use Rattle.force_core.specs.Known.{is_untaken, untaken_size}
use Rattle.force_core.specs.Reply.{Replied}
use Rattle.force_core.proofs.Untaken.{as_count, count-set, bytes-set}

or-true : (b : Bool) → true ≡ (b || true)
or-true true = refl
or-true false = refl

-- a job without an answer waits
waits-for : (t : Task) → t.answer ≡ None → true ≡ is_untaken t
waits-for t none = rw none (or-true (is_some t.outcome))

-- an outcome leaves the text, the job, and whether it was taken
pub replied-like : (t next : Task) (o : Outcome) (reply : Reply) → Replied t next o reply → (next.text ≡ t.text) × (next.job ≡ t.job) × (is_untaken next ≡ is_untaken t)
replied-like t next o replies.First r = rw r.1 (refl, refl, waits-for t r.0)
replied-like t next o replies.Again r = rw r.1 (refl, refl, refl)
replied-like t next o (replies.Differs second) r = rw r.4 (refl, refl, refl)
replied-like t next o replies.Stray r = absurd r

-- it leaves the counts
pub replied-count : (tasks : List Task) (id : ℕ) (t next : Task) (o : Outcome) (reply : Reply) → Replied t next o reply → id < length tasks → t ≡ get_or tasks id t → count_by is_untaken (set tasks id next) ≡ count_by is_untaken tasks
replied-count tasks id t next o reply replied below read =
    let e : as_count (is_untaken next) ≡ as_count (is_untaken t) = ap as_count (replied-like t next o reply replied).2 in
    omega (arith, count-set tasks id t next below read, e)

pub replied-size : (tasks : List Task) (id : ℕ) (t next : Task) (o : Outcome) (reply : Reply) → Replied t next o reply → id < length tasks → t ≡ get_or tasks id t → sum_by untaken_size (set tasks id next) ≡ sum_by untaken_size tasks
replied-size tasks id t next o reply replied below read =
    let like = replied-like t next o reply replied in
    let e : untaken_size next ≡ untaken_size t = ap (λ (b : Bool). cond b (job_size next.job) 0) like.2 ∙ ap (λ (j : Job). cond (is_untaken t) (job_size j) 0) like.1 in
    omega (arith, bytes-set tasks id t next below read, e)
