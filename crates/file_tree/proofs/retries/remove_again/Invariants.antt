use Rattle.std.proofs.Common.{◌≡◌}
use Rattle.file_tree.specs.Files.{MayChange}
use Rattle.file_tree.specs.declared.change.Change.TheVariants.{Removed}
use Rattle.object_name.proofs.PublicLaws.{IsWriting}
use Rattle.object_name.proofs.PublicLaws.{HasCounted}
use Rattle.file_tree.proofs.retries.remove_again.Given as goal

abbrev pub invariant-loop-of-try_again : goal.invariant-loop-of-try_again
invariant-loop-of-try_again g l =
    IsWriting g.T.Tree.tells g.T.Tree.files g.T.Tree.faults l.initial.tree l.tree (λ old new. MayChange old (Removed l.path) new) l.tried
    × (g.T.Tree.tells → g.T.Tree.changes l.tree ≡ g.T.Tree.changes l.initial.tree)
    × (g.T.Tree.tells → HasCounted (g.T.Tree.calls l.initial.tree) (g.T.Tree.calls l.tree) l.tried)
