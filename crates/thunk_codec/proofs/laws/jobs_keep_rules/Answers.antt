use Rattle.thunk_codec.proofs.JobsKeepRules.{job_of-keeps_rules, job_of-size}
use Rattle.thunk_codec.proofs.laws.jobs_keep_rules.Goals as goal

pub returns-clause-rules : goal.returns-clause-rules
returns-clause-rules c = job_of-keeps_rules

pub returns-clause-size : goal.returns-clause-size
returns-clause-size c = job_of-size
