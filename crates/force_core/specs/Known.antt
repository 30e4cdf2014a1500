-- Which jobs are known to a book, and for which it has no room.
use Rattle.std.specs.Prelude.{◌≡◌, ℕ, ◌+◌, List, [], ◌∷◌, ◌++◌, true, false, Some, None, length, sum_by, nat_lt, nat_le, Bool, ◌&&◌, ◌||◌, not, Option, bytes_eq, position, slice_get, if◌then◌else◌}
use Rattle.std.specs.List.{count_by}
use Rattle.std.specs.Option.{is_some}
use Rattle.thunk_codec.specs.declared.job.Job.{Job}
use Rattle.thunk_codec.specs.Job.{job_size, same_job}
use Rattle.force_core.specs.Book.{Core, Task, offered, entered_with}
use Rattle.need_eval.specs.declared.prepared.Prepared.{Prepared}
use Rattle.force_core.specs.declared.offer.Need.{Need}
use Rattle.force_core.specs.declared.offer.Need.TheVariants as needs
use Rattle.force_core.specs.declared.offer.Offer.{Offer}
use Rattle.force_core.specs.declared.offer.Offer.TheVariants as offers
use Rattle.force_core.specs.declared.event.Event.TheVariants as events

-- whether the outcome of a job was not taken: it did not come yet, or is there
abbrev pub is_untaken : Task → Bool
is_untaken t = is_some t.outcome || not (is_some t.answer)

-- whether this is that job, under that text, and its outcome was not taken
abbrev pub is_known : List ℕ → Job → Task → Bool
is_known text job t = is_untaken t && bytes_eq t.text text && same_job t.job job

-- the number under which a job is known
abbrev pub known : List ℕ → Job → List Task → Option ℕ
known text job tasks = position (is_known text job) tasks

-- how much of the room for jobs ahead a job takes
abbrev pub untaken_size : Task → ℕ
untaken_size t = if is_untaken t then job_size t.job else 0

-- the most bytes of encodings of jobs that are offered ahead
abbrev pub most_ahead : ℕ
most_ahead = 536870912

-- whether a job of this size is refused: it is only ahead, and too many jobs or bytes wait
abbrev pub is_refused : Need → List Task → ℕ → Bool
is_refused needs.Now tasks size = false
is_refused needs.Ahead tasks size = nat_le 256 (count_by is_untaken tasks) || nat_lt most_ahead (sum_by untaken_size tasks + size)

-- what comes of an offer, by the answer
abbrev pub Offers : Core → Core → Prepared → Need → Offer → Type 0
Offers before after p need (offers.Known id) = (known p.text p.job before.tasks ≡ Some id) × (after ≡ before)
Offers before after p need (offers.Full back) = (known p.text p.job before.tasks ≡ None) × (is_refused need before.tasks (job_size p.job) ≡ true) × (back ≡ p) × (after ≡ before)
Offers before after p need (offers.Offered id) = (known p.text p.job before.tasks ≡ None) × (is_refused need before.tasks (job_size p.job) ≡ false) × (id ≡ length before.tasks)
    × (after ≡ entered_with before (events.Offered id) (before.tasks ++ offered p.text p.job ∷ []))

-- a job of this number is that one, under that text, and its outcome was not taken
pub record IsKnown (text : List ℕ) (job : Job) (tasks : List Task) (id : ℕ) : Type 0 where
  pub task : Task
  pub found : slice_get tasks id ≡ Some task
  pub text_is : task.text ≡ text
  pub job_is : task.job ≡ job
  pub untaken : is_untaken task ≡ true
