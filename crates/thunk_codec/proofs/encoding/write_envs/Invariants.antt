use Rattle.std.proofs.Common.{◌≡◌, ◌++◌, take}
use Rattle.std.specs.List.{flat_map}
use Rattle.thunk_codec.specs.Thunk.{env_line}
use Rattle.thunk_codec.proofs.encoding.write_envs.Given as goal

abbrev pub invariant-envs : goal.invariant-envs
invariant-envs l = l.out ≡ l.initial.out ++ flat_map env_line (take l.key-index l.envs)
