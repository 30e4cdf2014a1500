-- What the code reads is what the definition reads.
use Rattle.std.proofs.Common.{◌≡◌, ℕ, List, Option, Some, None, Result, Ok, Err, sym, ◌∙◌}
use Rattle.std.specs.Prelude.{IfOk, IfSome}
use Rattle.std.specs.Option.{option_map}
use Rattle.std.specs.declared.alloc.AllocError.{AllocError}
use Rattle.object_name.specs.Name.{ObjectName}
use Rattle.reduction_cache.specs.Note.{NoteOf, Note}
use Rattle.reduction_cache.specs.Reading.{note_of}
use Rattle.reduction_cache.proofs.Notes.{note_of-text, text-note_of}

-- the note of a name and the names of outputs
abbrev pub note_from : ObjectName × List ObjectName → NoteOf
note_from note = record { resolved = note.0; outputs = note.1 }

abbrev pub Found : Type 0
Found = Result (Option (ObjectName × List ObjectName)) AllocError

-- what is read has this text
pub found_note : (bytes : List ℕ) (result : Found) → IfOk result (λ found. option_map note_from found ≡ note_of bytes) → IfOk result (λ found. IfSome found (λ note. Note bytes (note_from note)))
found_note bytes (Ok (Some note)) h = note_of-text bytes (note_from note) (sym h)
found_note bytes (Ok None) h = tt
found_note bytes (Err e) h = tt

-- what has this text is read
pub only_note : (bytes : List ℕ) (result : Found) → IfOk result (λ found. option_map note_from found ≡ note_of bytes)
    → (note : NoteOf) → Note bytes note → IfOk result (λ found. option_map note_from found ≡ Some note)
only_note bytes (Ok found) h note text = h ∙ text-note_of bytes note text
only_note bytes (Err e) h note text = tt
