use Rattle.thunk_codec.proofs.SameJobs.{same_job-equal, equal-same_job}
use Rattle.thunk_codec.proofs.laws.jobs_are_compared.Goals as goal

pub returns : goal.returns
returns c = λ a b. (same_job-equal a b, equal-same_job a b)
