use Rattle.need_eval.proofs.JobsOfThunks.{job-made}
use Rattle.need_eval.proofs.laws.jobs_are_made.Goals as goal

pub returns : goal.returns
returns c = job-made
