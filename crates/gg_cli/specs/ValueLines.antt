-- What is printed of values.
use Rattle.std.specs.Prelude.{ℕ, List, [], ◌∷◌, ◌++◌}
use Rattle.object_name.specs.Name.{ObjectName, spelling}
use Rattle.file_tree.specs.declared.item.Item.{Item}
use Rattle.file_tree.specs.Wanted.{item_text}

-- a value's name, a space, the item, and a line feed
abbrev pub value_line : ObjectName → Item → List ℕ
value_line name item = spelling name ++ (32 ∷ (item_text item ++ 10 ∷ []))

-- a line for each value
abbrev pub value_lines : List ObjectName → List Item → List ℕ
value_lines [] items = []
value_lines (name ∷ names) [] = []
value_lines (name ∷ names) (item ∷ items) = value_line name item ++ value_lines names items
