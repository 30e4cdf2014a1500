use Rattle.std.proofs.Common.{◌∙◌, ap, sym}
use Rattle.object_name.specs.Name.{ObjectName}
use Rattle.force_core.specs.Index.{is_number, first_at}
use Rattle.force_core.proofs.Indexed.{found-at}
use Rattle.force_core.proofs.Lookup.{found-other}
use Rattle.force_core.proofs.tasks.find.Goals as goal

pub returns-in-Some : goal.returns-in-Some
returns-in-Some g c = sym (found-at c.args.index.now c.args.entries.now c.args.prepared.now.text c.args.prepared.now.job c.in-Some.id c.requires.index c.in-Some.ensures.found)

pub returns : goal.returns
returns g c =
    found-other c.args.index.now c.args.entries.now c.args.prepared.now.text c.args.prepared.now.job c.find_among.result c.requires.index
    (λ id at. c.in_default.ensures.none id (ap (λ (name : ObjectName). is_number id (first_at c.args.index.now name)) c.requires.name ∙ at))
    c.find_among.ensures.found
    (rw c.others.ensures at c.find_among.ensures.none)
