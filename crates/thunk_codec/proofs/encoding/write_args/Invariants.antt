use Rattle.std.proofs.Common.{◌≡◌, ◌++◌, take}
use Rattle.std.specs.List.{flat_map}
use Rattle.thunk_codec.specs.Thunk.{arg_line}
use Rattle.thunk_codec.proofs.encoding.write_args.Given as goal

abbrev pub invariant-texts : goal.invariant-texts
invariant-texts l = l.out ≡ l.initial.out ++ flat_map arg_line (take l.arg-index l.args)
