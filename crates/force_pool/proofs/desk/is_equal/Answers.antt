use Rattle.std.proofs.Common.{◌∙◌, sym}
use Rattle.thunk_codec.proofs.PublicLaws.{same_job-equal}
use Rattle.force_pool.proofs.desk.is_equal.Goals as goal

pub returns : goal.returns
returns c is = same_job-equal c.args.found.now c.args.job.now (sym c.is_same.ensures ∙ is)
