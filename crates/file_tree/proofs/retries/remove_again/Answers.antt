use Rattle.std.proofs.Common.{rules, ◌∙◌}
use Rattle.file_tree.specs.declared.change.Change.TheVariants.{Removed}
use Rattle.file_tree.proofs.ChangedTwice.{MayChange-again}
use Rattle.object_name.proofs.PublicLaws.{tries-last}
use Rattle.file_tree.proofs.retries.remove_again.Goals as goal

pub returns-in_default-clause-kept : goal.returns-in_default-clause-kept
returns-in_default-clause-kept g c = λ tells.
    MayChange-again (g.T.Tree.files c.args.tree.now) (g.T.Tree.files c.loop-of-try_again.tree) (g.T.Tree.files c.remove.new.self)
    (Removed c.args.path.now) (c.loop-of-try_again.invariant.0.may tells) (c.in_default.ensures.kept tells)

pub loop-of-try_again-preserved : goal.loop-of-try_again-preserved
loop-of-try_again-preserved g c = (
  record {
    may = λ tells. MayChange-again (g.T.Tree.files c.args.tree.now) (g.T.Tree.files c.loop-of-try_again.tree) (g.T.Tree.files c.remove.new.self)
        (Removed c.args.path.now) (c.loop-of-try_again.invariant.0.may tells) (c.in-Err-Failed-try_again.ensures.kept tells);
    tried = search rules;
  },
  λ tells. c.in-Err-Failed-try_again.ensures.unlisted tells ∙ c.loop-of-try_again.invariant.1 tells,
  search rules,
)

pub returns-in_default-clause-tries : goal.returns-in_default-clause-tries
returns-in_default-clause-tries g c = λ tells.
    tries-last c.args.retries g.T.Tree.calls g.T.Tree.faults c.args.tree.now c.loop-of-try_again.tree c.remove.new.self c.loop-of-try_again.tried _ (search rules)
    c.loop-of-try_again.invariant.0.tried (search rules) (c.loop-of-try_again.invariant.2 tells) (c.remove.ensures.one tells)

pub returns-in_default-2-clause-tries : goal.returns-in_default-2-clause-tries
returns-in_default-2-clause-tries g c = λ tells.
    tries-last c.args.retries g.T.Tree.calls g.T.Tree.faults c.args.tree.now c.loop-of-try_again.tree c.remove.new.self c.loop-of-try_again.tried _ (search rules)
    c.loop-of-try_again.invariant.0.tried (search rules) (c.loop-of-try_again.invariant.2 tells) (c.remove.ensures.one tells)

pub returns-clause-tries : goal.returns-clause-tries
returns-clause-tries g c = λ tells.
    tries-last c.args.retries g.T.Tree.calls g.T.Tree.faults c.args.tree.now c.loop-of-try_again.tree c.remove-2.new.self c.loop-of-try_again.tried _ (search rules)
    c.loop-of-try_again.invariant.0.tried (search rules) (c.loop-of-try_again.invariant.2 tells) (c.remove-2.ensures.one tells)
