use Rattle.force_pool.proofs.OpenJobs.{open-by}
use Rattle.force_pool.proofs.desk.is_open.Goals as goal

pub returns : goal.returns
returns g c = λ is. open-by _ c.args.book.now c.args.id _ c.answer_of.result c.is_none.result c.requires c.in_ok-_job.ensures c.answer_of.ensures.answer c.is_none.ensures is
