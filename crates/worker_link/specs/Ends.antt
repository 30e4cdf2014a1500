-- Why a worker's session ended early, and what reading more of it gives.
use Rattle.std.specs.Prelude.{◌≡◌, ℕ, ◌+◌, ◌≤◌, ◌<◌, ◌^◌, List, [], ◌++◌, length, Option}
use Rattle.std.specs.Io.KnownBytes.{Consumes, IsAtEnd}
use Rattle.object_name.specs.Causes.{Rose}
use Rattle.job_wire.specs.Cut.{Cutting}
use Rattle.worker_link.specs.declared.feeding.FeedFault.{FeedFault}
use Rattle.worker_link.specs.declared.feeding.FeedFault.TheVariants as faults
use Rattle.worker_link.specs.declared.worker_end.WorkerEnd.{WorkerEnd}
use Rattle.worker_link.specs.declared.worker_end.WorkerEnd.TheVariants.{SourceFailed, SinkFailed, RunFailed, Memory}

-- a run stopped: where it failed, the count rose
abbrev pub IsRunEnd : ℕ → ℕ → WorkerEnd → Type 0
IsRunEnd before after RunFailed = Rose before after
IsRunEnd before after Memory = Unit {0}
IsRunEnd before after other = ⊥

-- an answer stopped, by the counts of the runner and of the sink
abbrev pub IsAnswerEnd : ℕ → ℕ → ℕ → ℕ → WorkerEnd → Type 0
IsAnswerEnd runs runs_after writes writes_after RunFailed = Rose runs runs_after
IsAnswerEnd runs runs_after writes writes_after SinkFailed = Rose writes writes_after
IsAnswerEnd runs runs_after writes writes_after Memory = Unit {0}
IsAnswerEnd runs runs_after writes writes_after other = ⊥

-- bytes came from the source that would bring the session to 2 ^ 64 bytes
pub record IsTooMuch (old : Cutting) (before after : Option (List ℕ)) : Type 0 where
  pub piece : List ℕ
  pub lost : Consumes before after piece
  pub over : 2 ^ 64 ≤ old.at + length old.kept + length piece

-- why no more of a session was fed
abbrev pub IsFeedFault : ℕ → ℕ → Cutting → Option (List ℕ) → Option (List ℕ) → FeedFault → Type 0
IsFeedFault reads reads_after old before after faults.SourceFailed = Rose reads reads_after
IsFeedFault reads reads_after old before after faults.TooMuch = IsTooMuch old before after
IsFeedFault reads reads_after old before after faults.Memory = Unit {0}

-- counts of faults: the runner's, the source's and the sink's
pub record Counts : Type 0 where
  pub runs : ℕ
  pub reads : ℕ
  pub writes : ℕ

-- no count has fallen, and a failure comes only where its count rose
pub record HasEndCause (before after : Counts) (end : WorkerEnd) : Type 0 where
  pub runs_later : before.runs ≤ after.runs
  pub reads_later : before.reads ≤ after.reads
  pub writes_later : before.writes ≤ after.writes
  pub run_failed : end ≡ RunFailed → Rose before.runs after.runs
  pub source_failed : end ≡ SourceFailed → Rose before.reads after.reads
  pub sink_failed : end ≡ SinkFailed → Rose before.writes after.writes

-- bytes came from the source and were fed
pub record IsFed (old new : Cutting) (before after : Option (List ℕ)) : Type 0 where
  pub piece : List ℕ
  pub some : 1 ≤ length piece
  pub lost : Consumes before after piece
  pub fed : new ≡ record { at = old.at; kept = old.kept ++ piece }
  pub small : new.at + length new.kept < 2 ^ 64

-- the input had ended, and nothing changed
pub record HasEnded (old new : Cutting) (before after : Option (List ℕ)) : Type 0 where
  pub end : IsAtEnd after
  pub same : Consumes before after []
  pub kept : new ≡ old
