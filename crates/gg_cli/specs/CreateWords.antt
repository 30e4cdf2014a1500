-- The words of `create-thunk`: options alone, in any order, each with its value in the next word.
use Rattle.std.specs.Prelude.{ℕ, ◌+◌, List, [], ◌∷◌, ◌++◌, length, sum_by, nat_le, Bool, ◌&&◌, Option, Some, None, is_some, bytes_eq, codes, if◌then◌else◌}
use Rattle.object_name.specs.Name.{max_size}
use Rattle.text_lines.specs.Cuts.{split_at_byte}
use Rattle.text_lines.specs.Maybe.{◌>>=◌, ◌>>◌, check}
use Rattle.thunk_codec.specs.Card.{card_text}
use Rattle.thunk_codec.specs.Fitting.{unreferring}
use Rattle.thunk_codec.specs.Path.{path_of}
use Rattle.thunk_codec.specs.Sorted.{sorted_envs, sorted_paths}
use Rattle.thunk_codec.specs.Thunk.{is_identifier, keeps_rules}
use Rattle.build_plan.specs.declared.recipe.Recipe.{Recipe}
use Rattle.build_plan.specs.declared.recipe.RecipeFunction.{RecipeFunction}
use Rattle.build_plan.specs.declared.recipe.RecipeFunction.TheVariants.{Card, File}
use Rattle.gg_cli.specs.declared.command.Command.{Command}
use Rattle.gg_cli.specs.declared.command.Command.TheVariants.{CreateThunk}
use Rattle.gg_cli.specs.declared.create_words.Slots.{Slots}

-- the most arguments and environment pairs together
abbrev pub max_texts : ℕ
max_texts = 65536

-- the most bytes of them together
abbrev pub max_text_bytes : ℕ
max_text_bytes = 4194304

-- nothing is given yet
abbrev pub no_parts : Slots
no_parts = record { function = None; args = []; envs = []; inputs = []; outputs = [] }

-- the name of a card: an identifier whose card is no longer than an object may be
abbrev pub card_name_of : List ℕ → Option (List ℕ)
card_name_of word = do
  check (is_identifier word)
  check (nat_le (length (card_text word)) max_size)
  Some word

-- with this function, where none is given yet
abbrev pub with_function : RecipeFunction → Slots → Option Slots
with_function function given = if is_some given.function then None else Some (record given { function = Some function })

-- with what an option and its value give: a line for each option. A function is given once, the others may repeat; `KEY=VALUE` is cut
-- at the first `=`
abbrev pub with_part : Slots → List ℕ → List ℕ → Option Slots
with_part given option value =
    if bytes_eq option (codes "--card") then (card_name_of value >>= λ name. with_function (Card name) given)
    else if bytes_eq option (codes "--function") then (path_of value >>= λ path. with_function (File path) given)
    else if bytes_eq option (codes "--arg") then Some (record given { args = given.args ++ value ∷ [] })
    else if bytes_eq option (codes "--env") then (split_at_byte 61 value >>= λ env. Some (record given { envs = given.envs ++ env ∷ [] }))
    else if bytes_eq option (codes "--input") then (path_of value >>= λ path. Some (record given { inputs = given.inputs ++ path ∷ [] }))
    else if bytes_eq option (codes "--output") then (path_of value >>= λ path. Some (record given { outputs = given.outputs ++ path ∷ [] }))
    else None

-- with all words: each option has a value, and no other word stands among them
abbrev pub with_parts : Slots → List (List ℕ) → Option Slots
with_parts given [] = Some given
with_parts given (option ∷ []) = None
with_parts given (option ∷ value ∷ words) = with_part given option value >>= λ more. with_parts more words

-- the recipe of what is given: environment and inputs are put in order
abbrev pub recipe_with : RecipeFunction → Slots → Recipe
recipe_with function given = record {
  function = function;
  args = given.args;
  envs = sorted_envs given.envs;
  inputs = sorted_paths given.inputs;
  outputs = given.outputs;
}

-- the bytes of a pair as `KEY=VALUE`
abbrev pub pair_bytes : List ℕ × List ℕ → ℕ
pair_bytes env = length env.0 + 1 + length env.1

-- there are not too many arguments and pairs, nor too many bytes of them
unfoldable pub is_within : List (List ℕ) → List (List ℕ × List ℕ) → Bool
is_within args envs = nat_le (length args + length envs) max_texts && nat_le (sum_by length args + sum_by pair_bytes envs) max_text_bytes

-- the recipe, where it is within the limits and its parts are those of a thunk, whatever REFs the files give
abbrev pub fit_recipe : Recipe → Option Command
fit_recipe recipe = do
  check (is_within recipe.args recipe.envs)
  check (keeps_rules (unreferring recipe.args recipe.envs recipe.inputs recipe.outputs))
  Some (CreateThunk recipe)

-- the thunk of what is given: a function must be
abbrev pub recipe_of : Slots → Option Command
recipe_of given = do
  function ← given.function
  fit_recipe (recipe_with function given)

-- what follows `create-thunk`
abbrev pub create_of : List (List ℕ) → Option Command
create_of words = do
  given ← with_parts no_parts words
  recipe_of given
