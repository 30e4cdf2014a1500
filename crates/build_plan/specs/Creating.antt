-- A thunk made of a recipe: its function and inputs are cards, files and placeholders, and a placeholder is left for each output.
use Rattle.std.specs.Prelude.{ℕ, suc, List, [], ◌∷◌, map}
use Rattle.object_name.specs.Name.{ObjectName}
use Rattle.thunk_codec.specs.Card.{card_text}
use Rattle.thunk_codec.specs.Placeholder.{placeholder_text}
use Rattle.thunk_codec.specs.Thunk.{Parts}
use Rattle.thunk_codec.specs.declared.reference.Ref.{Ref}
use Rattle.thunk_codec.specs.declared.reference.Ref.TheVariants.{Value}
use Rattle.file_tree.specs.declared.change.Change.{Change}
use Rattle.file_tree.specs.declared.change.Change.TheVariants.{Written}
use Rattle.build_plan.specs.declared.recipe.Recipe.{Recipe}
use Rattle.build_plan.specs.declared.recipe.RecipeFunction.{RecipeFunction}
use Rattle.build_plan.specs.declared.recipe.RecipeFunction.TheVariants.{Card, File}
use Rattle.build_plan.specs.Doing.{Doing, ◌>>=◌, ◌>>◌, give, each}
use Rattle.build_plan.specs.Way.{file_input}
use Rattle.build_plan.specs.Symbolic.{Work, read_item, stored, ref_of_item, input_ref, thunk_stored, file_changed}

-- the REF of a recipe's function: a card is stored, and a file is read
abbrev pub function_ref : RecipeFunction → Doing Work Ref
function_ref (Card name) = do
  card ← stored (card_text name)
  give (Value card)
function_ref (File path) = do
  item ← read_item path
  ref_of_item item

-- the parts of the thunk of a recipe
abbrev pub recipe_parts : Recipe → Ref → List (List ℕ × Ref) → Parts
recipe_parts recipe function inputs = record { function = function; args = recipe.args; envs = recipe.envs; inputs = inputs; outputs = recipe.outputs }

-- a placeholder for each output, from one of a number on
abbrev pub placeholders : ObjectName → ℕ → List (List ℕ) → List Change
placeholders name index [] = []
placeholders name index (path ∷ paths) = Written path (placeholder_text name index) ∷ placeholders name (suc index) paths

-- the function, the inputs under their own paths in order and the thunk are stored; then a placeholder is written at each output's path
abbrev pub created : Recipe → Doing Work ObjectName
created recipe = do
  function ← function_ref recipe.function
  inputs ← each (input_ref []) (map file_input recipe.inputs)
  name ← thunk_stored (recipe_parts recipe function inputs)
  each file_changed (placeholders name 0 recipe.outputs)
  give name
