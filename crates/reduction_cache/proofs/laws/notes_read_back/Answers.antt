use Rattle.reduction_cache.proofs.Notes.{note_of-text, text-note_of}
use Rattle.reduction_cache.proofs.laws.notes_read_back.Goals as goal

pub returns : goal.returns
returns c = λ bytes note. (note_of-text bytes note, text-note_of bytes note)
