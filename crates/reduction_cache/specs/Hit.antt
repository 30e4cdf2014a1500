-- What a store knows of a reduction: a note for it with so many outputs, all of them held.
use Rattle.std.specs.Prelude.{ℕ, List, length, ◌==◌, Bool, Option, Some, is_some}
use Rattle.std.specs.List.{list_all}
use Rattle.std.specs.Ordering.{eq_by_cmp}
use Rattle.object_name.specs.Name.{ObjectName, name_cmp}
use Rattle.text_lines.specs.Maybe.{◌>>=◌, ◌>>◌, check}
use Rattle.blob_store.specs.Store.{Store, Write, Note, held}
use Rattle.reduction_cache.specs.Note.{note_text}
use Rattle.reduction_cache.specs.Reading.{note_of}

-- whether an object is held
abbrev pub is_held : Store → ObjectName → Bool
is_held store name = is_some (held store.objects name)

-- the outputs of a resolved thunk by its note
unfoldable pub hit_of : Store → ObjectName → ℕ → Option (List ObjectName)
hit_of store resolved count = do
  bytes ← store.notes resolved
  note ← note_of bytes
  check (eq_by_cmp name_cmp note.resolved resolved)
  check (length note.outputs == count)
  check (list_all (is_held store) note.outputs)
  Some note.outputs

-- the write that keeps a note
abbrev pub note_write : ObjectName → List ObjectName → Write
note_write resolved outputs = Note resolved (note_text (record { resolved = resolved; outputs = outputs }))
