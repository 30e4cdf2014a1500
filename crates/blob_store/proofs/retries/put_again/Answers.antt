use Rattle.std.proofs.Common.{rules, ◌∙◌}
use Rattle.blob_store.specs.Store.Write.{Object}
use Rattle.blob_store.proofs.WrittenTwice.{MayWrite-again}
use Rattle.object_name.proofs.PublicLaws.{tries-last}
use Rattle.blob_store.proofs.retries.put_again.Goals as goal

pub returns-in_default-clause-kept : goal.returns-in_default-clause-kept
returns-in_default-clause-kept g c = λ tells.
    MayWrite-again (g.K.Keeper.store c.args.keeper.now) (g.K.Keeper.store c.loop-of-try_again.keeper) (g.K.Keeper.store c.put.new.self)
    (Object c.args.name.now c.args.bytes.now) (c.loop-of-try_again.invariant.may tells) (c.in_default.ensures.kept tells)

pub loop-of-try_again-preserved : goal.loop-of-try_again-preserved
loop-of-try_again-preserved g c =
    record {
      may = λ tells. MayWrite-again (g.K.Keeper.store c.args.keeper.now) (g.K.Keeper.store c.loop-of-try_again.keeper) (g.K.Keeper.store c.put.new.self)
          (Object c.args.name.now c.args.bytes.now) (c.loop-of-try_again.invariant.may tells) (c.in-Err-Failed-try_again.ensures.kept tells);
      list = λ tells. c.in-Err-Failed-try_again.ensures.unlisted tells ∙ c.loop-of-try_again.invariant.list tells;
      tried = search rules;
      counted = search rules;
    }

pub returns-in_default-clause-tries : goal.returns-in_default-clause-tries
returns-in_default-clause-tries g c = λ tells.
    tries-last c.args.retries g.K.Keeper.calls g.K.Keeper.faults c.args.keeper.now c.loop-of-try_again.keeper c.put.new.self c.loop-of-try_again.tried _ (search rules)
    c.loop-of-try_again.invariant.tried (search rules) (c.loop-of-try_again.invariant.counted tells) (c.in_default.ensures.one tells)

pub returns-in_default-2-clause-tries : goal.returns-in_default-2-clause-tries
returns-in_default-2-clause-tries g c = λ tells.
    tries-last c.args.retries g.K.Keeper.calls g.K.Keeper.faults c.args.keeper.now c.loop-of-try_again.keeper c.put.new.self c.loop-of-try_again.tried _ (search rules)
    c.loop-of-try_again.invariant.tried (search rules) (c.loop-of-try_again.invariant.counted tells) (c.put.ensures.one tells)

pub returns-clause-tries : goal.returns-clause-tries
returns-clause-tries g c = λ tells.
    tries-last c.args.retries g.K.Keeper.calls g.K.Keeper.faults c.args.keeper.now c.loop-of-try_again.keeper c.put-2.new.self c.loop-of-try_again.tried _ (search rules)
    c.loop-of-try_again.invariant.tried (search rules) (c.loop-of-try_again.invariant.counted tells) (c.put-2.ensures.one tells)
