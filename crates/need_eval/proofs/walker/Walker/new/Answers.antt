use Rattle.need_eval.proofs.WalkerStaysSound.{sound-fresh}
use Rattle.need_eval.proofs.walker.Walker.new.Goals as goal

pub invariant_of-result-clause-sound : goal.invariant_of-result-clause-sound
invariant_of-result-clause-sound c = rw (c.new-2.ensures.items, c.new.ensures, c.from_vec.ensures.items) (sound-fresh c.refs.inside.0.items (rw (← c.refs.view_is) at c.requires))
