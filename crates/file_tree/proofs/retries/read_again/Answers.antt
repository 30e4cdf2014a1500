use Rattle.std.proofs.Common.{rules}
use Rattle.object_name.proofs.PublicLaws.{tries-last}
use Rattle.file_tree.proofs.retries.read_again.Goals as goal

pub returns-in_default-clause-tries : goal.returns-in_default-clause-tries
returns-in_default-clause-tries g c = λ tells.
    tries-last c.args.retries g.T.Tree.calls g.T.Tree.faults c.args.tree.now c.loop-of-try_again.tree c.read.new.self c.loop-of-try_again.tried _ (search rules)
    c.loop-of-try_again.invariant.0.tried (search rules) (c.loop-of-try_again.invariant.2 tells) (c.read.ensures.one tells)

pub returns-in_default-2-clause-tries : goal.returns-in_default-2-clause-tries
returns-in_default-2-clause-tries g c = λ tells.
    tries-last c.args.retries g.T.Tree.calls g.T.Tree.faults c.args.tree.now c.loop-of-try_again.tree c.read.new.self c.loop-of-try_again.tried _ (search rules)
    c.loop-of-try_again.invariant.0.tried (search rules) (c.loop-of-try_again.invariant.2 tells) (c.read.ensures.one tells)

pub returns-clause-tries : goal.returns-clause-tries
returns-clause-tries g c = λ tells.
    tries-last c.args.retries g.T.Tree.calls g.T.Tree.faults c.args.tree.now c.loop-of-try_again.tree c.read-2.new.self c.loop-of-try_again.tried _ (search rules)
    c.loop-of-try_again.invariant.0.tried (search rules) (c.loop-of-try_again.invariant.2 tells) (c.read-2.ensures.one tells)
