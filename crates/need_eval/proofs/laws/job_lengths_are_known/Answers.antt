use Rattle.need_eval.proofs.JobsOfThunks.{job-length}
use Rattle.need_eval.proofs.laws.job_lengths_are_known.Goals as goal

pub returns : goal.returns
returns c = job-length
