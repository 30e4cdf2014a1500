use Rattle.std.proofs.Common.{◌≡◌, ◌∷◌, ◌++◌, length, map}
use Rattle.thunk_codec.specs.Folder.{last_of}
use Rattle.model_binutils.specs.PlanOf.{insertion_letters}
use Rattle.model_binutils.proofs.insertion.insertion_args.Given as goal

abbrev pub invariant-members : goal.invariant-members
invariant-members l = l.args ++ map last_of l.rest ≡ insertion_letters l.table ∷ map last_of l.members

abbrev pub decreases-members : goal.decreases-members
decreases-members l = length l.rest
