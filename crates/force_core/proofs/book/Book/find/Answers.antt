use Rattle.force_core.proofs.Same.{known-found}
use Rattle.force_core.proofs.book.Book.find.Goals as goal

pub returns-clause-same : goal.returns-clause-same
returns-clause-same g c = rw (← c.self.view_is) (known-found c.args.prepared.now.text c.args.prepared.now.job c.self.inside.tasks.items c.find.result c.find.ensures)
