use Rattle.std.specs.List.{AllByRecursion}
use Rattle.thunk_codec.specs.Reference.{IsRef}
use Rattle.eval_tests.proofs.texts.first_outputs.Given as goal

abbrev pub invariant-names : goal.invariant-names
invariant-names l = AllByRecursion IsRef l.refs
