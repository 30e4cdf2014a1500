use Rattle.std.specs.List.{AllByRecursion}
use Rattle.thunk_codec.specs.Reference.{IsRef}
use Rattle.pool_cases.proofs.wanted.refs.Given as goal

abbrev pub invariant-wanted : goal.invariant-wanted
invariant-wanted l = AllByRecursion IsRef l.refs
