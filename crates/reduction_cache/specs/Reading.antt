-- Reading a note from its beginning, as a total function.
use Rattle.std.specs.Prelude.{ℕ, zero, suc, List, [], ◌∷◌, take, drop, length, nat_eq, nat_le, ◌==◌, Option, Some, bytes_eq, if◌then◌else◌}
use Rattle.std.specs.List.{starts_with}
use Rattle.object_name.specs.Kind.{letter_of_kind}
use Rattle.object_name.specs.Name.{ObjectName, named_by}
use Rattle.text_lines.specs.Maybe.{◌>>=◌, ◌>>◌, check}
use Rattle.text_lines.specs.Cuts.{strip_prefix}
use Rattle.reduction_cache.specs.Note.{NoteOf, note_head, note_end}

-- a name and the line feed after it
unfoldable pub name_at : List ℕ → Option (ObjectName × List ℕ)
name_at bytes = do
  name ← named_by (take 52 bytes)
  rest ← strip_prefix (10 ∷ []) (drop 52 bytes)
  Some (name, rest)

-- names up to the last line, at most so many
unfoldable pub names_at : ℕ → List ℕ → Option (List ObjectName × List ℕ)
names_at zero bytes = Some ([], bytes)
names_at (suc most) bytes =
    if starts_with nat_eq bytes note_end then Some ([], bytes)
    else (do
      first ← name_at bytes
      others ← names_at most first.1
      Some (first.0 ∷ others.0, others.1))

-- the note whose text this is, if there is one
unfoldable pub note_of : List ℕ → Option NoteOf
note_of bytes = do
  first ← strip_prefix note_head bytes
  resolved ← name_at first
  check (letter_of_kind resolved.0.kind == 84)
  outputs ← names_at 64 resolved.1
  check (nat_le 1 (length outputs.0))
  rest ← strip_prefix note_end outputs.1
  check (bytes_eq rest [])
  Some (record { resolved = resolved.0; outputs = outputs.0 })
