use Rattle.std.proofs.Common.{◌≡◌, ◌++◌, take}
use Rattle.std.specs.List.{flat_map}
use Rattle.job_wire.proofs.list.write_list.Given as goal

abbrev pub invariant-things : goal.invariant-things
invariant-things g l = l.out ≡ l.initial.out ++ flat_map g.T.Field.spelled (take l.thing-index l.things)
