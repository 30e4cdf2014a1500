-- Links over frames of bytes: what they have read and written, and why receiving fails.
use Rattle.std.specs.Prelude.{◌≡◌, ◌⊎◌, ℕ, ◌+◌, ◌≤◌, ◌^◌, List, [], length, Option, IfSome, Result, IfOk, OnOk, IsErrOf}
use Rattle.std.proofs.Common.{arith}
use Rattle.std.specs.Io.KnownBytes.{prepend_known, Appends, Consumes}
use Rattle.object_name.specs.Causes.{Rose}
use Rattle.object_name.specs.Calls.{risen}
use Rattle.object_name.specs.Streams.{AppendsPrefix}
use Rattle.object_name.specs.declared.trouble.Trouble.{Trouble}
use Rattle.object_name.specs.declared.trouble.Trouble.TheVariants as troubles
use Rattle.thunk_codec.specs.declared.job.Job.{Job}
use Rattle.thunk_codec.specs.declared.job.Outcome.{Outcome}
use Rattle.thunk_codec.specs.declared.job.Outcome.TheVariants.{Failed}
use Rattle.thunk_codec.specs.Outcome.{Fits}
use Rattle.job_wire.specs.declared.message.Message.{Message}
use Rattle.job_wire.specs.declared.message.Message.TheVariants.{Start, Reply, Bye}
use Rattle.job_wire.specs.Cut.{Cutting}
use Rattle.job_wire.specs.Frame.{frame}
use Rattle.job_wire.specs.Session.{Front, Short, TooLong, Bad, Whole, front}
use Rattle.worker_link.specs.Link.{IsReply}

-- no job is told: who is at the other end isn't known
abbrev pub none_told : Job → Type 0
none_told job = ⊥

-- an outcome that fits each job, where none is told
abbrev pub some_outcome : Job → Outcome
some_outcome job = Failed 1

-- it fits each job
pub some_fits : (job : Job) → Fits job (some_outcome job)
some_fits job = (omega arith, omega arith)

-- how a session was cut so far, the bytes that the source has left and those that the sink wrote, where they are told, and how
-- often each of them has failed
pub record Framed : Type 0 where
  pub cutting : Cutting
  pub left : Option (List ℕ)
  pub written : Option (List ℕ)
  pub reads : ℕ
  pub writes : ℕ

-- a session of which nothing came yet
abbrev pub uncut : Cutting
uncut = record { at = 0; kept = [] }

-- what is still to be read: what a cutter keeps, and then what a source has left
abbrev pub input_of : Cutting → Option (List ℕ) → Option (List ℕ)
input_of c left = prepend_known c.kept left

-- the message is no reply on a job that was sent: no job was sent under its lease that its outcome fits
abbrev pub IsNoReply : List (ℕ × Job) → Message → Type 0
IsNoReply sent (Start lease job) = Unit {0}
IsNoReply sent (Reply lease outcome) = IsReply none_told some_outcome sent lease outcome → ⊥
IsNoReply sent Bye = Unit {0}

-- no frame of a reply on a job that was sent stands in front: the input ends before a whole frame, a length is over the limit, a
-- whole frame is bad, or it is that of another message
abbrev pub HasNoReply : List (ℕ × Job) → Front → Type 0
HasNoReply sent Short = Unit {0}
HasNoReply sent (TooLong len) = Unit {0}
HasNoReply sent Bad = Unit {0}
HasNoReply sent (Whole message rest) = IsNoReply sent message

-- what in the input makes receiving fail: no reply stands in front of it, or the session reaches 2 ^ 64 bytes
abbrev pub IsNoInput : List (ℕ × Job) → ℕ → List ℕ → Type 0
IsNoInput sent at bytes = HasNoReply sent (front bytes) ⊎ (2 ^ 64 ≤ at + length bytes)

-- why receiving fails: the source failed, or, where its bytes are told, it is by the input
abbrev pub CannotReceive : List (ℕ × Job) → Framed → Framed → Type 0
CannotReceive sent old new = Rose old.reads new.reads ⊎ IfSome (input_of old.cutting old.left) (IsNoInput sent old.cutting.at)

-- a count after a trouble: one more for a failure, or its last value
abbrev pub counted : ℕ → Trouble → ℕ
counted count troubles.Failed = risen count
counted count troubles.Memory = count

-- a session begins on the same source and sink
abbrev pub Begins : Framed → Framed → Type 0
Begins old new = new ≡ record { cutting = uncut; left = old.left; written = old.written; reads = old.reads; writes = old.writes }

-- a call that writes: all of the bytes where it is Ok, and else a prefix of them. It fails only where the sink failed, and reads
-- nothing
pub record Writes {T : Type 0} (bytes : List ℕ) (old new : Framed) (result : Result T Trouble) : Type 0 where
  pub whole : OnOk result (Appends old.written new.written bytes)
  pub prefix : AppendsPrefix old.written new.written bytes
  pub failed : IsErrOf result troubles.Failed → Rose old.writes new.writes
  pub cutting : new.cutting ≡ old.cutting
  pub left : new.left ≡ old.left
  pub reads : new.reads ≡ old.reads

-- a call that receives: it takes the frame of the reply from the input. It fails only where the source failed or the input has no
-- such reply, and writes nothing
pub record Takes (sent : List (ℕ × Job)) (old new : Framed) (result : Result (ℕ × Outcome) Trouble) : Type 0 where
  pub frame_taken : IfOk result (λ r. Consumes (input_of old.cutting old.left) (input_of new.cutting new.left) (frame (Reply r.0 r.1)))
  pub at : IfOk result (λ r. new.cutting.at ≡ old.cutting.at + length (frame (Reply r.0 r.1)))
  pub failed : IsErrOf result troubles.Failed → CannotReceive sent old new
  pub written : new.written ≡ old.written
  pub writes : new.writes ≡ old.writes
