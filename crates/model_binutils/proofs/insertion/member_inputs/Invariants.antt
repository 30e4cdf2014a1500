use Rattle.std.proofs.Common.{◌≡◌, ◌++◌, length}
use Rattle.model_binutils.specs.PlanOf.{member_inputs}
use Rattle.model_binutils.proofs.insertion.member_inputs.Given as goal

abbrev pub invariant-members : goal.invariant-members
invariant-members l = l.inputs ++ member_inputs (length l.inputs) l.rest ≡ member_inputs 0 l.members

abbrev pub decreases-members : goal.decreases-members
decreases-members l = length l.rest
