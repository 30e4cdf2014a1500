use Rattle.reduction_cache.proofs.FoundNotes.{found_note, only_note}
use Rattle.reduction_cache.proofs.note.read_note.Goals as goal

pub returns-clause-found : goal.returns-clause-found
returns-clause-found c = found_note c.args.bytes.now c.note_at.result c.note_at.ensures

pub returns-clause-only : goal.returns-clause-only
returns-clause-only c = only_note c.args.bytes.now c.note_at.result c.note_at.ensures
