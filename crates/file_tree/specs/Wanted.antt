-- Wanted items: references, and files that are placeholders of some.
use Rattle.std.specs.Prelude.{ℕ, List, [], ◌∷◌, ◌++◌, codes, bytes_eq, Option, Some, None, Result, Ok, Err, if◌then◌else◌}
use Rattle.std.specs.List.{list_any}
use Rattle.object_name.specs.Name.{ObjectName}
use Rattle.thunk_codec.specs.declared.reference.Ref.{Ref}
use Rattle.thunk_codec.specs.declared.reference.Ref.TheVariants.{Out}
use Rattle.thunk_codec.specs.Placeholder.{placeholder_of}
use Rattle.thunk_codec.specs.Reference.{IsRef, ref_text}
use Rattle.file_tree.specs.Files.{Files, file_read}
use Rattle.file_tree.specs.declared.item.Item.{Item}
use Rattle.file_tree.specs.declared.item.Item.TheVariants.{File, Bare}
use Rattle.file_tree.specs.declared.refusal.FileRefusal.{FileRefusal}
use Rattle.file_tree.specs.declared.refusal.FileRefusal.TheVariants.{Twice, NoFile, TooLong, NotPlaceholder}
use Rattle.file_tree.specs.declared.tree.FileRead.{FileRead}
use Rattle.file_tree.specs.declared.tree.FileRead.TheVariants as reads

-- a reference that is an item names an object of its kind
abbrev pub IsItem : Item → Type 0
IsItem (File path) = Unit {0}
IsItem (Bare ref) = IsRef ref

-- how an item is spelled
abbrev pub item_text : Item → List ℕ
item_text (File path) = path
item_text (Bare ref) = ref_text ref

-- how an item is spelled so that no file is taken for a reference: a file after `./`
abbrev pub full_text : Item → List ℕ
full_text (File path) = codes "./" ++ path
full_text (Bare ref) = ref_text ref

-- the first of some items that repeats one before it, among them or those that are spelled so
unfoldable pub first_repeated : List (List ℕ) → List Item → Option (List ℕ)
first_repeated earlier [] = None
first_repeated earlier (item ∷ items) = if list_any (bytes_eq (full_text item)) earlier then Some (item_text item) else first_repeated (earlier ++ full_text item ∷ []) items

-- the first of some items that repeats one before it: two files are one item where their paths are the same, and two references where
-- they are, and a file is never a reference
abbrev pub repeated_item : List Item → Option (List ℕ)
repeated_item items = first_repeated [] items

-- the reference of a placeholder, or the refusal of the file that is none
abbrev pub ref_of_output : List ℕ → Option (ObjectName × ℕ) → Result Ref FileRefusal
ref_of_output path None = Err (NotPlaceholder path)
ref_of_output path (Some output) = Ok (Out output.0 output.1)

-- the reference that the file at a path stands for
abbrev pub ref_of_read : List ℕ → FileRead → Result Ref FileRefusal
ref_of_read path reads.Absent = Err (NoFile path)
ref_of_read path (reads.Bytes bytes) = ref_of_output path (placeholder_of bytes)
ref_of_read path reads.TooLong = Err (TooLong path)

-- the reference of an item: its own, or that of its placeholder
abbrev pub ref_of_item : Files → Item → Result Ref FileRefusal
ref_of_item files (File path) = ref_of_read path (file_read (files path))
ref_of_item files (Bare ref) = Ok ref

-- one reference before others
abbrev pub ref_before : Ref → Result (List Ref) FileRefusal → Result (List Ref) FileRefusal
ref_before ref (Ok refs) = Ok (ref ∷ refs)
ref_before ref (Err refusal) = Err refusal

-- the references of an item and of those after it, by that of the item
abbrev pub item_then : Result Ref FileRefusal → Result (List Ref) FileRefusal → Result (List Ref) FileRefusal
item_then (Ok ref) rest = ref_before ref rest
item_then (Err refusal) rest = Err refusal

-- the references of some items, or the first refusal
unfoldable pub refs_of : Files → List Item → Result (List Ref) FileRefusal
refs_of files [] = Ok []
refs_of files (item ∷ items) = item_then (ref_of_item files item) (refs_of files items)

-- the same, where no item repeats one before it
abbrev pub refs_once : Files → List Item → Option (List ℕ) → Result (List Ref) FileRefusal
refs_once files items (Some text) = Err (Twice text)
refs_once files items None = refs_of files items

-- the references of wanted items, or the refusal: of the first item that is repeated, before any file is looked at, and
-- else of the first item that has one
abbrev pub wanted_of : Files → List Item → Result (List Ref) FileRefusal
wanted_of files items = refs_once files items (repeated_item items)
