-- What a walker waits for is within the limits, and its job keeps the rules of a job.
use Rattle.std.proofs.Common.{◌≤◌, Option, Some, None, length}
use Rattle.std.specs.Prelude.{IfSome, IsTrue}
use Rattle.object_name.specs.Name.{max_size}
use Rattle.thunk_codec.specs.Job.{job_keeps_rules, job_size, max_job}
use Rattle.need_eval.specs.declared.prepared.Prepared.{Prepared}

pub within_limits : (found : Option Prepared) → IfSome found (λ prepared. (length prepared.text ≤ max_size) × (job_size prepared.job ≤ max_job))
within_limits None = tt
within_limits (Some prepared) = (prepared.small_text, prepared.small_job)

pub keeps_rules : (found : Option Prepared) → IfSome found (λ prepared. IsTrue (job_keeps_rules prepared.job))
keeps_rules None = tt
keeps_rules (Some prepared) = prepared.rules
