use Rattle.std.proofs.Common.{rules}
use Rattle.object_name.proofs.PublicLaws.{tries-last}
use Rattle.blob_store.proofs.retries.get_note_again.Goals as goal

pub returns-in_default-clause-tries : goal.returns-in_default-clause-tries
returns-in_default-clause-tries g c = λ tells.
    tries-last c.args.retries g.K.Keeper.calls g.K.Keeper.faults c.args.keeper.now c.loop-of-try_again.keeper c.get_note.new.self c.loop-of-try_again.tried _ (search rules)
    c.loop-of-try_again.invariant.tried (search rules) (c.loop-of-try_again.invariant.counted tells) (c.in_default.ensures.one tells)

pub returns-in_default-2-clause-tries : goal.returns-in_default-2-clause-tries
returns-in_default-2-clause-tries g c = λ tells.
    tries-last c.args.retries g.K.Keeper.calls g.K.Keeper.faults c.args.keeper.now c.loop-of-try_again.keeper c.get_note.new.self c.loop-of-try_again.tried _ (search rules)
    c.loop-of-try_again.invariant.tried (search rules) (c.loop-of-try_again.invariant.counted tells) (c.get_note.ensures.one tells)

pub returns-clause-tries : goal.returns-clause-tries
returns-clause-tries g c = λ tells.
    tries-last c.args.retries g.K.Keeper.calls g.K.Keeper.faults c.args.keeper.now c.loop-of-try_again.keeper c.get_note-2.new.self c.loop-of-try_again.tried _ (search rules)
    c.loop-of-try_again.invariant.tried (search rules) (c.loop-of-try_again.invariant.counted tells) (c.get_note-2.ensures.one tells)
