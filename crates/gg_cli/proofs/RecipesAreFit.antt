-- The recipe that words give keeps a thunk's rules.
use Rattle.std.proofs.Common.{◌≡◌, ◌≤◌, ◌+◌, ◌*◌, ℕ, Bool, true, false, leb, List, [], ◌∷◌, length, map, Option, Some, None, is_some, Result, Ok, Err, IfOk, ap, subst, arith, if◌then◌else◌, bytes_eq, codes}
use Rattle.std.specs.Prelude.{sum_by}
use Rattle.std.specs.List.{list_all}
use Rattle.std.proofs.lemmas.Bool.{and_parts, leb-true}
use Rattle.std.proofs.lemmas.List.{length-map}
use Rattle.std.proofs.lemmas.List.Sums.{sum_by-cons}
use Rattle.object_name.specs.Name.{max_size}
use Rattle.text_lines.specs.Cuts.{split_at_byte}
use Rattle.text_lines.specs.Maybe.{◌>>=◌, bind_some, test_some}
use Rattle.thunk_codec.specs.Card.{card_text}
use Rattle.thunk_codec.specs.Fitting.{args_bound, envs_bound, paths_bound, outputs_bound, text_bound, unknown_ref, unreferring}
use Rattle.thunk_codec.specs.declared.reference.Ref.{Ref}
use Rattle.thunk_codec.specs.Path.{is_path, path_of}
use Rattle.thunk_codec.specs.Thunk.{is_identifier, keeps_numbers, keeps_bytes, keeps_orders, keeps_paths, keeps_rules}
use Rattle.thunk_codec.proofs.PublicLaws.{parts-fit, path_length}
use Rattle.build_plan.specs.declared.recipe.Recipe.{Recipe}
use Rattle.build_plan.specs.declared.recipe.RecipeFunction.{RecipeFunction}
use Rattle.build_plan.specs.declared.recipe.RecipeFunction.TheVariants.{Card, File}
use Rattle.build_plan.specs.Fitting.{IsCardName, IsFitFunction}
use Rattle.gg_cli.specs.declared.command.Command.{Command}
use Rattle.gg_cli.specs.declared.create_words.Slots.{Slots}
use Rattle.gg_cli.specs.declared.word_fault.WordFault.{WordFault}
use Rattle.gg_cli.specs.Reading.{Finds}
use Rattle.gg_cli.specs.CreateWords.{no_parts, card_name_of, with_function, with_part, with_parts, recipe_with, pair_bytes, is_within, fit_recipe, recipe_of, create_of}
use Rattle.gg_cli.specs.Words.{IsCommand}

-- ---- the function

-- a function that is given has a card, where it is one
abbrev FunctionFits : Option RecipeFunction → Type 0
FunctionFits None = Unit {0}
FunctionFits (Some function) = IsFitFunction function

-- what is there is one thing
same_some : {A : Type 0} {x y : A} → Some x ≡ Some y → x ≡ y
same_some {x = x} e = ap (λ found. elim found [ Some z ↦ z | None ↦ x ]) e

-- what holds of each of two choices holds of the one that was made
choose : {B : Type 0} (test : Bool) (first second : Option Slots) (more : Slots) → (if test then first else second) ≡ Some more → (first ≡ Some more → B) → (second ≡ Some more → B) → B
choose true first second more e left right = left e
choose false first second more e left right = right e

function_set : (earlier : Bool) (set more : Slots) → (if earlier then None else Some set) ≡ Some more → set ≡ more
function_set true set more e = absurd cc
function_set false set more e = same_some e

-- a function that is set and fits
set_fits : (function : RecipeFunction) (given more : Slots) → IsFitFunction function → with_function function given ≡ Some more → FunctionFits more.function
set_fits function given more fits e = subst (λ (m : Slots). FunctionFits m.function) (function_set (is_some given.function) (record given { function = Some function }) more e) fits

-- the name of a card is short
card_name : (word name : List ℕ) → card_name_of word ≡ Some name → IsCardName name
card_name word name e =
    let first = test_some (is_identifier word) _ name e in
    let second = test_some (leb (length (card_text word)) max_size) _ name first.1 in
    subst (λ (text : List ℕ). length (card_text text) ≤ max_size) (same_some second.1) (leb-true (length (card_text word)) max_size second.0)

-- parts with the same function
kept_fits : (next more : Slots) → FunctionFits next.function → Some next ≡ Some more → FunctionFits more.function
kept_fits next more fits e = subst (λ (m : Slots). FunctionFits m.function) (same_some e) fits

module _ (given more : Slots) (value : List ℕ) (fits : FunctionFits given.function) where
  card_fits : (card_name_of value >>= λ name. with_function (Card name) given) ≡ Some more → FunctionFits more.function
  card_fits e = let b = bind_some (card_name_of value) _ more e in set_fits (Card b.0) given more (card_name value b.0 b.1) b.2

  file_fits : (path_of value >>= λ path. with_function (File path) given) ≡ Some more → FunctionFits more.function
  file_fits e = let b = bind_some (path_of value) _ more e in set_fits (File b.0) given more tt b.2

  -- what is read keeps the function
  read_fits : {A : Type 0} (read : Option A) (next : A → Slots) → ((x : A) → FunctionFits (next x).function) → (read >>= λ x. Some (next x)) ≡ Some more → FunctionFits more.function
  read_fits read next keeps e = let b = bind_some read (λ x. Some (next x)) more e in kept_fits (next b.0) more (keeps b.0) b.2

  part_fits : (option : List ℕ) → with_part given option value ≡ Some more → FunctionFits more.function
  part_fits option e =
      choose (bytes_eq option (codes "--card")) _ _ more e card_fits (λ e.
      choose (bytes_eq option (codes "--function")) _ _ more e file_fits (λ e.
      choose (bytes_eq option (codes "--arg")) _ _ more e (kept_fits _ more fits) (λ e.
      choose (bytes_eq option (codes "--env")) _ _ more e (read_fits (split_at_byte 61 value) _ (λ _. fits)) (λ e.
      choose (bytes_eq option (codes "--input")) _ _ more e (read_fits (path_of value) _ (λ _. fits)) (λ e.
      choose (bytes_eq option (codes "--output")) _ _ more e (read_fits (path_of value) _ (λ _. fits)) (λ e. absurd cc))))))

parts_fit : (words : List (List ℕ)) (given more : Slots) → FunctionFits given.function → with_parts given words ≡ Some more → FunctionFits more.function
parts_fit [] given more fits e = kept_fits given more fits e
parts_fit (option ∷ []) given more fits e = absurd cc
parts_fit (option ∷ value ∷ words) given more fits e =
    let b = bind_some (with_part given option value) (λ next. with_parts next words) more e in
    parts_fit words b.0 more (part_fits given b.0 value fits option b.1) b.2

-- ---- how long the text is

args_sum : (args : List (List ℕ)) → args_bound args ≡ 12 * length args + sum_by length args
args_sum [] = omega arith
args_sum (arg ∷ args) = omega (arith, sum_by-cons (λ (text : List ℕ). 12 + length text) arg args, sum_by-cons (λ (text : List ℕ). length text) arg args, args_sum args)

envs_sum : (envs : List (List ℕ × List ℕ)) → envs_bound envs ≡ 12 * length envs + sum_by pair_bytes envs
envs_sum [] = omega arith
envs_sum (env ∷ envs) =
    omega (arith, sum_by-cons (λ (pair : List ℕ × List ℕ). 13 + length pair.0 + length pair.1) env envs, sum_by-cons (λ (pair : List ℕ × List ℕ). length pair.0 + 1 + length pair.1) env envs, envs_sum envs)

-- paths are short
inputs_sum : (paths : List (List ℕ)) → list_all is_path (map (λ (input : List ℕ × Ref). input.0) (map (λ (path : List ℕ). (path, unknown_ref)) paths)) ≡ true → paths_bound paths ≤ 1096 * length paths
inputs_sum [] h = omega arith
inputs_sum (path ∷ paths) h =
    let parts = and_parts (is_path path) (list_all is_path (map (λ (input : List ℕ × Ref). input.0) (map (λ (p : List ℕ). (p, unknown_ref)) paths))) h in
    omega (arith, sum_by-cons (λ (text : List ℕ). 72 + length text) path paths, path_length path parts.0, inputs_sum paths parts.1)

outputs_sum : (paths : List (List ℕ)) → list_all is_path paths ≡ true → outputs_bound paths ≤ 1032 * length paths
outputs_sum [] h = omega arith
outputs_sum (path ∷ paths) h =
    let parts = and_parts (is_path path) (list_all is_path paths) h in
    omega (arith, sum_by-cons (λ (text : List ℕ). 8 + length text) path paths, path_length path parts.0, outputs_sum paths parts.1)

module _ (args : List (List ℕ)) (envs : List (List ℕ × List ℕ)) (inputs outputs : List (List ℕ)) where
  -- what is within the limits has a short text
  text_short : is_within args envs ≡ true → keeps_rules (unreferring args envs inputs outputs) ≡ true → text_bound args envs inputs outputs ≤ max_size
  unfolding is_within
  text_short within rules =
      let t = unreferring args envs inputs outputs in
      let sizes = and_parts (leb (length args + length envs) 65536) _ within in
      let texts = leb-true (length args + length envs) 65536 sizes.0 in
      let bytes = leb-true (sum_by length args + sum_by pair_bytes envs) 4194304 sizes.1 in
      let a = and_parts (keeps_numbers t) _ rules in
      let b = and_parts (keeps_bytes t) _ a.1 in
      let c = and_parts (keeps_orders t) (keeps_paths t) b.1 in
      let d = and_parts (list_all is_path (map (λ (input : List ℕ × Ref). input.0) t.inputs)) (list_all is_path outputs) c.1 in
      let numbers = and_parts (leb (length t.inputs) 4096) _ a.0 in
      let few = leb-true (length t.inputs) 4096 numbers.0 in
      let wrapped : List ℕ → List ℕ × Ref = λ path. (path, unknown_ref) in
      let count = length-map inputs wrapped in
      let most = leb-true (length outputs) 64 (and_parts (leb 1 (length outputs)) (leb (length outputs) 64) numbers.1).1 in
      omega (arith, texts, bytes, few, count, most, args_sum args, envs_sum envs, inputs_sum inputs d.0, outputs_sum outputs d.1)

-- ---- the recipe

fits_recipe : (recipe : Recipe) (command : Command) → IsFitFunction recipe.function → fit_recipe recipe ≡ Some command → IsCommand command
fits_recipe recipe command fits e =
    let within = test_some (is_within recipe.args recipe.envs) _ command e in
    let rules = test_some (keeps_rules (unreferring recipe.args recipe.envs recipe.inputs recipe.outputs)) _ command within.1 in
    subst IsCommand (same_some rules.1) (record {
      function = fits;
      parts = parts-fit recipe.args recipe.envs recipe.inputs recipe.outputs rules.0 (text_short recipe.args recipe.envs recipe.inputs recipe.outputs within.0 rules.0);
    })

given_fits : (given : Slots) (command : Command) → FunctionFits given.function → recipe_of given ≡ Some command → IsCommand command
given_fits given command fits e =
    let b = bind_some given.function (λ function. fit_recipe (recipe_with function given)) command e in
    fits_recipe (recipe_with b.0 given) command (subst FunctionFits b.1 fits) b.2

-- what `create-thunk` gives is a command that keeps the rules
pub created_is_command : (words : List (List ℕ)) (command : Command) → create_of words ≡ Some command → IsCommand command
created_is_command words command e =
    let b = bind_some (with_parts no_parts words) recipe_of command e in
    given_fits b.0 command (parts_fit words no_parts b.0 tt b.1) b.2

-- the same of what reading the words answers
pub finds_command : (words : List (List ℕ)) (result : Result Command WordFault) → Finds result (create_of words) → IfOk result IsCommand
finds_command words (Ok command) finds = created_is_command words command finds
finds_command words (Err fault) finds = tt
