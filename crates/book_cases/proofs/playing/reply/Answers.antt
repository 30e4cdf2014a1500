use Rattle.lease_table.specs.Table.{job_of}
use Rattle.book_cases.proofs.Failures.{failure-fits}
use Rattle.book_cases.proofs.playing.reply.Goals as goal

pub reply-requires : goal.reply-requires
reply-requires c =
    rw c.requires.sealed (failure-fits c.args.book.now.tasks (job_of c.args.book.now.state.table c.args.lease) c.args.status c.requires.status.0 c.requires.status.1)
