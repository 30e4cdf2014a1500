use Rattle.std.proofs.Common.{sym, ◌∙◌}
use Rattle.force_core.specs.Index.{is_known_at}
use Rattle.force_core.proofs.Lookup.{first-passes, none-among}
use Rattle.force_core.proofs.tasks.find_among.Goals as goal

pub returns-in-Some-clause-found : goal.returns-in-Some-clause-found
returns-in-Some-clause-found g c =
    first-passes (is_known_at c.args.prepared.now.text c.args.prepared.now.job c.args.entries.now) c.args.numbers.now c.in-Some.place (sym c.place_of_known.ensures ∙ c.in-Some.is)

pub returns-in-None-clause-none : goal.returns-in-None-clause-none
returns-in-None-clause-none g c = λ id among.
    none-among (is_known_at c.args.prepared.now.text c.args.prepared.now.job c.args.entries.now) c.args.numbers.now id (sym c.place_of_known.ensures ∙ c.in-None.is) among
