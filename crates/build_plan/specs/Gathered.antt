-- What a step of a plan gathers where tools aren't run: bytes, or an output of a thunk.
use Rattle.std.specs.Prelude.{ℕ, List, Option, Some, None, Result, Ok, Err}
use Rattle.object_name.specs.declared.kind.Kind.{Kind}
use Rattle.object_name.specs.declared.kind.Kind.TheVariants as kinds
use Rattle.object_name.specs.Kind.{kind_of}
use Rattle.object_name.specs.Name.{ObjectName}
use Rattle.thunk_codec.specs.Placeholder.{placeholder_of, placeholder_text}
use Rattle.file_tree.specs.declared.refusal.FileRefusal.{FileRefusal}
use Rattle.file_tree.specs.declared.refusal.FileRefusal.TheVariants.{NoFile, TooLong, ThunkText}
use Rattle.file_tree.specs.declared.tree.FileRead.{FileRead}
use Rattle.file_tree.specs.declared.tree.FileRead.TheVariants as reads
use Rattle.build_plan.specs.declared.gathered.Gathered.{Gathered}
use Rattle.build_plan.specs.declared.gathered.Gathered.TheVariants.{Plain, Output}

-- the bytes of a file are gathered unless they are a thunk's
abbrev pub plain_item : List ℕ → List ℕ → Kind → Result Gathered FileRefusal
plain_item path bytes kinds.Value = Ok (Plain bytes)
plain_item path bytes kinds.Thunk = Err (ThunkText path)

-- a placeholder stands for its output
abbrev pub item_of_bytes : List ℕ → List ℕ → Option (ObjectName × ℕ) → Result Gathered FileRefusal
item_of_bytes path bytes (Some output) = Ok (Output output.0 output.1)
item_of_bytes path bytes None = plain_item path bytes (kind_of bytes)

-- what the file at a path is, by what reading it gives
abbrev pub item_of : List ℕ → FileRead → Result Gathered FileRefusal
item_of path reads.Absent = Err (NoFile path)
item_of path reads.TooLong = Err (TooLong path)
item_of path (reads.Bytes bytes) = item_of_bytes path bytes (placeholder_of bytes)

-- what a file gets: the bytes, or a placeholder
abbrev pub item_bytes : Gathered → List ℕ
item_bytes (Plain bytes) = bytes
item_bytes (Output name index) = placeholder_text name index
