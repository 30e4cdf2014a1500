-- Values that go to the files that wanted them.
use Rattle.std.specs.Prelude.{ℕ, List, [], ◌∷◌, ◌++◌, unwrap_or}
use Rattle.object_name.specs.Name.{ObjectName}
use Rattle.blob_store.specs.Store.{Contents, held}
use Rattle.file_tree.specs.declared.change.Change.{Change}
use Rattle.file_tree.specs.declared.change.Change.TheVariants.{Written}
use Rattle.file_tree.specs.declared.item.Item.{Item}
use Rattle.file_tree.specs.declared.item.Item.TheVariants.{File, Bare}

-- the bytes of a value; what an evaluation gives is held
abbrev pub value_bytes : Contents → ObjectName → List ℕ
value_bytes objects name = unwrap_or (held objects name) []

-- the value of an item goes to its file, if it has one
abbrev pub item_filed : Contents → ObjectName → Item → List Change
item_filed objects name (File path) = Written path (value_bytes objects name) ∷ []
item_filed objects name (Bare ref) = []

-- each of these items that is a file is written once with the bytes of its value
unfoldable pub filed : Contents → List ObjectName → List Item → List Change
filed objects [] items = []
filed objects (name ∷ names) [] = []
filed objects (name ∷ names) (item ∷ items) = item_filed objects name item ++ filed objects names items
