-- Notes: that a thunk whose references are all values was reduced, and to which outputs.
use Rattle.std.specs.Prelude.{◌≡◌, ◌≤◌, ℕ, List, [], ◌∷◌, ◌++◌, length, codes}
use Rattle.std.specs.List.{flat_map, AllByRecursion}
use Rattle.object_name.specs.declared.kind.Kind.TheVariants.{Thunk}
use Rattle.object_name.specs.Name.{ObjectName, IsName, spelling}

-- the name of the resolved thunk, and those of its outputs in order
pub record NoteOf : Type 0 where
  pub resolved : ObjectName
  pub outputs : List ObjectName

-- a name in a line
abbrev pub name_line : ObjectName → List ℕ
name_line name = spelling name ++ 10 ∷ []

-- the first line of a note
abbrev pub note_head : List ℕ
note_head = codes "gg-note 1" ++ 10 ∷ []

-- the last line of a note
abbrev pub note_end : List ℕ
note_end = codes "end" ++ 10 ∷ []

-- the text of a note
unfoldable pub note_text : NoteOf → List ℕ
note_text note = note_head ++ (name_line note.resolved ++ (flat_map name_line note.outputs ++ note_end))

-- what a note keeps: the resolved thunk's name is that of a thunk, and it has 1 to 64 outputs
pub record IsNote (note : NoteOf) : Type 0 where
  pub resolved : IsName note.resolved
  pub kind : note.resolved.kind ≡ Thunk
  pub outputs : AllByRecursion IsName note.outputs
  pub some_output : 1 ≤ length note.outputs
  pub few_outputs : length note.outputs ≤ 64

-- the bytes are the text of the note
pub record Note (bytes : List ℕ) (note : NoteOf) : Type 0 where
  pub rules : IsNote note
  pub text : bytes ≡ note_text note
