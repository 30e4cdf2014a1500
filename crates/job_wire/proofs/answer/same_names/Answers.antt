use Rattle.std.proofs.Common.{rules}
use Rattle.std.specs.Cmp.Rules.{comparing}
use Rattle.std.proofs.lemmas.Slice.Eq.{slice_eq-Decides}
use Rattle.job_wire.proofs.answer.same_names.Goals as goal

pub returns : goal.returns
returns c = slice_eq-Decides (λ a b. search (comparing, rules)) c.args.names.now c.args.others.now c.eq.result c.eq.ensures
