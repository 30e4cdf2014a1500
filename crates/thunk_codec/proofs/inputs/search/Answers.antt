use Rattle.std.proofs.Common.{rules}
use Rattle.std.proofs.lemmas.Fn.{always_returns_same}
use Rattle.thunk_codec.proofs.InputsFound.{compared}
use Rattle.thunk_codec.proofs.inputs.search.Goals as goal

pub returns-clause-position : goal.returns-clause-position
returns-clause-position c = c.binary_search_by.ensures.position (compared c.args.path.now) (always_returns_same _ _ _ (λ a r k called. search rules))
