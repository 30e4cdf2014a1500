use Rattle.force_pool.proofs.QuietBooks.{quiet-settled}
use Rattle.force_pool.proofs.desk.settle_quietly.Goals as goal

pub returns : goal.returns
returns g c = quiet-settled c.args.book.now c.settle.new.book c.args.ready c.settle.result c.settle.ensures.settles c.settle.ensures.prefix
