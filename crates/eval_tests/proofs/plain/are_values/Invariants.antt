use Rattle.std.proofs.Common.{take}
use Rattle.thunk_codec.specs.Resolved.{HaveValueKind}
use Rattle.eval_tests.proofs.plain.are_values.Given as goal

abbrev pub invariant-names : goal.invariant-names
invariant-names l = HaveValueKind (take l.name-index l.names)
