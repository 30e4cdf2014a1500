use Rattle.std.proofs.Common.{Ok, sym, ap}
use Rattle.build_plan.proofs.CountsAddUp.{called-ok, called-fault}
use Rattle.build_plan.proofs.FilesAreFound.{finds-tree}
use Rattle.build_plan.proofs.reading.read_file.Goals as goal

pub returns-in-Ok-clause-exact : goal.returns-in-Ok-clause-exact
returns-in-Ok-clause-exact g c told = ap (λ read. Ok read) (sym (c.in-Ok.ensures.found told))

pub returns-in-Err-clause-exact : goal.returns-in-Err-clause-exact
returns-in-Err-clause-exact g c told = rw c.tree_fault.ensures (finds-tree _ _ c.in-Err.trouble)

pub returns-in-Ok-clause-reads : goal.returns-in-Ok-clause-reads
returns-in-Ok-clause-reads g c = record {
  same = λ told. c.in-Ok.ensures.same told;
  list = λ told. c.in-Ok.ensures.list told;
  fares = called-ok g.T.Tree.tells g.T.Tree.calls g.T.Tree.faults c.args.retries _ _ c.in-Ok.read c.in-Ok.read c.args.tree.now c.read_again.new.tree c.in-Ok.ensures.cause c.in-Ok.ensures.tries;
}

pub returns-in-Err-clause-reads : goal.returns-in-Err-clause-reads
returns-in-Err-clause-reads g c = rw c.tree_fault.ensures (record {
  same = λ told. c.in-Err.ensures.same told;
  list = λ told. c.in-Err.ensures.list told;
  fares = called-fault g.T.Tree.tells g.T.Tree.calls g.T.Tree.faults c.args.retries _ _ c.in-Err.trouble c.args.tree.now c.read_again.new.tree c.in-Err.ensures.cause c.in-Err.ensures.tries;
})
