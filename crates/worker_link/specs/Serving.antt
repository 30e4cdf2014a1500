-- What a worker answers to a session: each job, in order, by the outcome of its function, and how it ends.
use Rattle.std.specs.Prelude.{◌≡◌, ℕ, ◌+◌, ◌≤◌, ◌^◌, List, [], ◌∷◌, length, Option}
use Rattle.std.specs.List.{flat_map, AllByRecursion}
use Rattle.std.specs.Io.KnownBytes.{Appends}
use Rattle.object_name.specs.Streams.{AppendsPrefix}
use Rattle.thunk_codec.specs.declared.job.Job.{Job}
use Rattle.thunk_codec.specs.declared.job.Outcome.{Outcome}
use Rattle.job_wire.specs.declared.message.Message.{Message}
use Rattle.job_wire.specs.declared.message.Message.TheVariants.{Start, Reply, Bye}
use Rattle.job_wire.specs.Frame.{frame}
use Rattle.job_wire.specs.Session.{End, AtRest, Session, session}
use Rattle.job_wire.specs.Session as session_ends
use Rattle.worker_link.specs.declared.worker_end.WorkerEnd.{WorkerEnd}
use Rattle.worker_link.specs.declared.worker_end.WorkerEnd.TheVariants.{Ended, Cut, BadFrame, FrameTooLong, TooMuch, SourceFailed, SinkFailed, RunFailed, Memory}

-- the jobs in front of other messages, with their leases
abbrev pub started : List Message → List (ℕ × Job)
started [] = []
started (Start lease job ∷ others) = (lease, job) ∷ started others
started (Reply lease outcome ∷ others) = []
started (Bye ∷ others) = []

-- the end of a session in which nothing follows these jobs
abbrev pub end_of : End → WorkerEnd
end_of AtRest = Ended
end_of session_ends.Cut = Cut
end_of (session_ends.BadFrame at) = BadFrame at
end_of (session_ends.FrameTooLong at len) = FrameTooLong at len

-- the end by what follows them, where the first message stands at this place
abbrev pub end_after : ℕ → List Message → End → WorkerEnd
end_after at [] end = end_of end
end_after at (Start lease job ∷ others) end = end_after (at + length (frame (Start lease job))) others end
end_after at (Reply lease outcome ∷ others) end = BadFrame at
end_after at (Bye ∷ others) end = Ended

-- the jobs of a session that a worker answers, with their leases
abbrev pub jobs_of : List ℕ → List (ℕ × Job)
jobs_of bytes = started (session bytes).messages

-- how it ends
abbrev pub worker_end : List ℕ → WorkerEnd
worker_end bytes = end_after 0 (session bytes).messages (session bytes).end

-- the answer to a job
abbrev pub reply : (Job → Outcome) → ℕ × Job → List ℕ
reply outcome start = frame (Reply start.0 (outcome start.1))

-- the answers to a session
abbrev pub answer : (Job → Outcome) → List ℕ → List ℕ
answer outcome bytes = flat_map (reply outcome) (jobs_of bytes)

-- the outcome of each of its jobs is told
abbrev pub AreTold : (Job → Type 0) → List ℕ → Type 0
AreTold tells bytes = AllByRecursion (λ start. tells start.1) (jobs_of bytes)

-- what was written is a prefix of the answers
abbrev pub WritesPrefix : (Job → Type 0) → (Job → Outcome) → List ℕ → Option (List ℕ) → Option (List ℕ) → Type 0
WritesPrefix tells outcome bytes before after = AreTold tells bytes → AppendsPrefix before after (answer outcome bytes)

-- or all of them
abbrev pub WritesAll : (Job → Type 0) → (Job → Outcome) → List ℕ → Option (List ℕ) → Option (List ℕ) → Type 0
WritesAll tells outcome bytes before after = AreTold tells bytes → Appends before after (answer outcome bytes)

-- what a worker wrote to a session, by how it ended
abbrev pub Serves : (Job → Type 0) → (Job → Outcome) → List ℕ → Option (List ℕ) → Option (List ℕ) → WorkerEnd → Type 0
Serves tells outcome bytes before after TooMuch = WritesPrefix tells outcome bytes before after × (2 ^ 64 ≤ length bytes)
Serves tells outcome bytes before after SourceFailed = WritesPrefix tells outcome bytes before after
Serves tells outcome bytes before after SinkFailed = WritesPrefix tells outcome bytes before after
Serves tells outcome bytes before after RunFailed = WritesPrefix tells outcome bytes before after
Serves tells outcome bytes before after Memory = WritesPrefix tells outcome bytes before after
Serves tells outcome bytes before after end = (end ≡ worker_end bytes) × WritesAll tells outcome bytes before after
