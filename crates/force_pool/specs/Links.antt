-- The links of a call, when they were given and when they came back.
use Rattle.std.specs.Prelude.{◌≡◌, ◌≢◌, ◌≤◌, ◌<◌, ◌+◌, ◌-◌, ◌^◌, ℕ, List, length, take, map, sum_by, Result, Ok, Err}
use Rattle.std.specs.List.{AllByRecursion}
use Rattle.object_name.specs.Causes.{RoseBy}
use Rattle.thunk_codec.specs.declared.job.Job.{Job}
use Rattle.need_eval.specs.declared.evaluating.Values.{Values}
use Rattle.force_pool.specs.declared.fault.ForceFault.{ForceFault}
use Rattle.force_pool.specs.declared.fault.ForceFault.TheVariants.{Eval, Differs, LinksLost, Memory}
use Rattle.force_pool.specs.declared.report.Report.{Report}

-- what is said of a link: the leases that were sent on it, with their jobs, and its count of faults
pub record Mark : Type 0 where
  pub sent : List (ℕ × Job)
  pub faults : ℕ

-- the last value of a count
abbrev pub last_count : ℕ
last_count = 2 ^ 64 - 1

-- what was said of some links, as their types say it
abbrev pub marks_of : {L : Type 0} → (L → List (ℕ × Job)) → (L → ℕ) → List L → List Mark
marks_of jobs faults links = map (λ link. record { sent = jobs link; faults = faults link }) links

-- a link came back: what was sent on it stands first, and its count is no lower
pub record IsBack (given back : Mark) : Type 0 where
  pub sent : take (length given.sent) back.sent ≡ given.sent
  pub later : given.faults ≤ back.faults

-- a link failed more often than it was tried again
abbrev pub IsLost : ℕ → Mark → Mark → Type 0
IsLost retries given back = RoseBy retries given.faults back.faults

-- each job that was sent is told
abbrev pub AllTold : (Job → Type 0) → List (ℕ × Job) → Type 0
AllTold tells sent = AllByRecursion (λ pair. tells pair.1) sent

-- each job that was sent on some links is told
abbrev pub AreTold : (Job → Type 0) → List Mark → Type 0
AreTold tells marks = AllByRecursion (λ mark. AllTold tells mark.sent) marks

-- how much was sent on some links
abbrev pub sent_in : List Mark → ℕ
sent_in marks = sum_by (λ mark. length mark.sent) marks

-- how often some links failed
abbrev pub faults_in : List Mark → ℕ
faults_in marks = sum_by (λ mark. mark.faults) marks

-- a link's count doesn't stand at its last value
abbrev pub CountsOn : Mark → Type 0
CountsOn mark = mark.faults < last_count

-- the numbers of a report, by what was sent and by how often links failed: each lease that was sent was started, each that was
-- started was sent or a link failed, and each loss is of a failure
pub record HasNumbers (given back : List Mark) (r : Report) : Type 0 where
  pub sent : sent_in back ≤ sent_in given + r.starts
  pub starts : r.starts + sent_in given + faults_in given ≤ sent_in back + faults_in back
  pub losses : r.losses + faults_in given ≤ faults_in back

-- two answers that are said to differ do so, and not all jobs that were sent are told
abbrev pub DiffersBy : (Job → Type 0) → List Mark → Result Values ForceFault → Type 0
DiffersBy tells back (Ok values) = Unit {0}
DiffersBy tells back (Err (Eval fault)) = Unit {0}
DiffersBy tells back (Err (Differs resolved first second)) = (first ≢ second) × (AreTold tells back → ⊥)
DiffersBy tells back (Err LinksLost) = Unit {0}
DiffersBy tells back (Err Memory) = Unit {0}
