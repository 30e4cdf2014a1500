use Rattle.std.proofs.Common.{refl}
use Rattle.need_eval.proofs.ThunkIsLeft.{ends}
use Rattle.need_eval.proofs.walker.Walker.end.Goals as goal

pub returns-clause-turns : goal.returns-clause-turns
returns-clause-turns c = λ store answer writes asked.
    ends c.args.self.now store answer writes asked c.replace-names.result _ c.requires.outside c.requires.gathered c.replace-names.ensures.value refl
