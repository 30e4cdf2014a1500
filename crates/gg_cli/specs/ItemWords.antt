-- Items, by their words.
use Rattle.std.specs.Prelude.{ℕ, List, [], ◌∷◌, nat_eq, Bool, true, false, Option, Some, None, codes, if◌then◌else◌}
use Rattle.std.specs.List.{starts_with}
use Rattle.text_lines.specs.Maybe.{◌>>=◌}
use Rattle.thunk_codec.specs.declared.reference.Ref.{Ref}
use Rattle.thunk_codec.specs.declared.reference.Ref.TheVariants.{Value, Out}
use Rattle.thunk_codec.specs.Path.{path_of}
use Rattle.thunk_codec.specs.Reference.{ref_of}
use Rattle.file_tree.specs.declared.item.Item.{Item}
use Rattle.file_tree.specs.declared.item.Item.TheVariants.{File, Bare}

-- the file at a path, if there is a path
abbrev pub file_at : Option (List ℕ) → Option Item
file_at None = None
file_at (Some path) = Some (File path)

-- an item by its text: the REF that it spells, or else the file at its path
abbrev pub item_by : List ℕ → Option Ref → Option Item
item_by text (Some ref) = Some (Bare ref)
item_by text None = file_at (path_of text)

-- the item that a word is: none that begins with `-`
unfoldable pub item_of : List ℕ → Option Item
item_of word = if starts_with nat_eq word (codes "-") then None else item_by word (ref_of word)

-- the items that some words are, if each is one
unfoldable pub items_in : List (List ℕ) → Option (List Item)
items_in [] = Some []
items_in (word ∷ words) = do
  item ← item_of word
  items ← items_in words
  Some (item ∷ items)

-- whether an item is the name of a value
abbrev pub is_value : Item → Bool
is_value (File path) = false
is_value (Bare (Value name)) = true
is_value (Bare (Out name index)) = false

-- an item that isn't: it stands for an output of a thunk
abbrev pub output_item : Item → Option Item
output_item item = if is_value item then None else Some item

-- such an item, by its word
abbrev pub output_item_of : List ℕ → Option Item
output_item_of word = item_of word >>= output_item
