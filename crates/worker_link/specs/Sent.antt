-- The jobs that were sent over a link, each with its lease, in the order of sending.
use Rattle.std.specs.Prelude.{ℕ, ◌-◌, List, [], ◌∷◌, length, slice_get, Option, Some, None, ◌==◌, Bool, true, false, if◌then◌else◌}
use Rattle.thunk_codec.specs.declared.job.Job.{Job}

-- whether a job was sent under this lease
abbrev pub has_lease : ℕ → List (ℕ × Job) → Bool
has_lease lease [] = false
has_lease lease (sent ∷ others) = if sent.0 == lease then true else has_lease lease others

-- the job of a lease under which exactly one was sent
abbrev pub only_job : ℕ → List (ℕ × Job) → Option Job
only_job lease [] = None
only_job lease (sent ∷ others) =
    if sent.0 == lease then (if has_lease lease others then None else Some sent.1)
    else only_job lease others

-- whether this is the lease of a job, where there is one
abbrev pub is_lease_of : ℕ → Option (ℕ × Job) → Bool
is_lease_of lease None = false
is_lease_of lease (Some sent) = sent.0 == lease

-- whether this is the lease of the job that was sent last
abbrev pub is_latest : List (ℕ × Job) → ℕ → Bool
is_latest sent lease = is_lease_of lease (slice_get sent (length sent - 1))
