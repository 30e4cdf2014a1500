use Rattle.reduction_cache.proofs.Notes.{same_note, same_text}
use Rattle.reduction_cache.proofs.laws.one_note_text.Goals as goal

pub returns-clause-note : goal.returns-clause-note
returns-clause-note c = same_note

pub returns-clause-text : goal.returns-clause-text
returns-clause-text c = same_text
