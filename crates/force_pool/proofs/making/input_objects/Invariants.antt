use Rattle.std.specs.Prelude.{◌≡◌, map, take}
use Rattle.thunk_codec.specs.Job.{with_length, with_size}
use Rattle.force_pool.specs.Walks.{IsOnlyRead}
use Rattle.force_pool.proofs.making.input_objects.Given as goal

abbrev pub invariant-inputs : goal.invariant-inputs
invariant-inputs g l =
    IsOnlyRead g.K.Keeper.tells g.K.Keeper.store g.K.Keeper.writes g.K.Keeper.faults l.fn.keeper l.keeper
    × (map with_length l.read ≡ map with_size (take l.path-index l.inputs))
