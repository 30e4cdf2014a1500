use Rattle.force_pool.proofs.QuietBooks.{quiet-offer-tried}
use Rattle.force_pool.proofs.desk.offer_quietly.Goals as goal

pub returns : goal.returns
returns g c = quiet-offer-tried c.args.book.now c.offer.new.self c.args.prepared c.args.need c.offer.result c.offer.ensures.ok c.offer.ensures.err
