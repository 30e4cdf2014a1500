use Rattle.std.proofs.Common.{◌∙◌, ap, length}
use Rattle.object_name.specs.Name.{ObjectName, spelling}
use Rattle.object_name.proofs.NameLemmas.{spelling_written, length-digest_text, length-size_text}
use Rattle.object_name.proofs.name.Name.spell.Goals as goal

pub returns-clause-spelled : goal.returns-clause-spelled
returns-clause-spelled c =
    let n : ObjectName = record { kind = c.self.inside.kind; digest = c.self.inside.digest; size = c.self.inside.size } in
    spelling_written c.args.into.now c.spell_digest.new.into c.spell_size.new.into c.letter.result n c.told-into c.letter.ensures
    (ap length c.spell_digest.ensures ∙ length-digest_text c.self.inside.digest c.self.told) c.spell_digest.ensures
    (ap length c.spell_size.ensures ∙ length-size_text c.self.inside.size) c.spell_size.ensures
    ∙ ap spelling c.self.view_is
