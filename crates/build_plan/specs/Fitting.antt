-- Plans whose thunks keep a thunk's rules, whatever is in the files.
use Rattle.std.specs.Prelude.{◌≡◌, ◌≤◌, ℕ, List, [], length, map, true}
use Rattle.std.specs.List.{AllByRecursion, list_all}
use Rattle.object_name.specs.Name.{max_size}
use Rattle.thunk_codec.specs.Card.{card_text}
use Rattle.thunk_codec.specs.Fitting.{AreFit}
use Rattle.thunk_codec.specs.Path.{is_path}
use Rattle.thunk_codec.specs.Thunk.{is_strictly_increasing}
use Rattle.include_scan.specs.Scanning.{max_files}
use Rattle.build_plan.specs.declared.plan.Plan.{Plan}
use Rattle.build_plan.specs.declared.plan.Scanning.{Scanning}
use Rattle.build_plan.specs.declared.plan.Stage.{Stage}
use Rattle.build_plan.specs.declared.plan.Step.{Step}
use Rattle.build_plan.specs.declared.plan.Step.TheVariants.{Read, Take, Find, Run, Scan}
use Rattle.build_plan.specs.declared.recipe.Recipe.{Recipe}
use Rattle.build_plan.specs.declared.recipe.RecipeFunction.{RecipeFunction}
use Rattle.build_plan.specs.declared.recipe.RecipeFunction.TheVariants.{Card, File}
use Rattle.file_tree.specs.Files.{Files}
use Rattle.build_plan.specs.Symbolic.{one_output}
use Rattle.build_plan.specs.Way.{completed}

-- the bytes of a tool's card are no more than an object may have
abbrev pub IsCardName : List ℕ → Type 0
IsCardName tool = length (card_text tool) ≤ max_size

-- a stage's tool has a card, and its thunk keeps the rules, with the optional input and without
pub record IsFitStage (stage : Stage) : Type 0 where
  pub card : IsCardName stage.tool
  pub parts : (files : Files) → AreFit stage.args [] (map (λ input. input.0) (completed files stage).inputs) one_output

-- the same of a scanned source, whatever files are scanned
pub record IsFitScanning (scanning : Scanning) : Type 0 where
  pub card : IsCardName scanning.tool
  pub parts : (paths : List (List ℕ)) → list_all is_path paths ≡ true → is_strictly_increasing paths ≡ true → length paths ≤ max_files → AreFit scanning.args [] paths one_output

abbrev pub IsFitStep : Step → Type 0
IsFitStep (Read path) = Unit {0}
IsFitStep (Take path) = Unit {0}
IsFitStep (Find missing places) = Unit {0}
IsFitStep (Run stage) = IsFitStage stage
IsFitStep (Scan scanning) = IsFitScanning scanning

-- each thunk of the plan keeps a thunk's rules
abbrev pub IsFitPlan : Plan → Type 0
IsFitPlan plan = AllByRecursion IsFitStep plan.steps

-- a function that is a card has one
abbrev pub IsFitFunction : RecipeFunction → Type 0
IsFitFunction (Card name) = IsCardName name
IsFitFunction (File path) = Unit {0}

-- the thunk of a recipe keeps a thunk's rules
pub record IsFitRecipe (recipe : Recipe) : Type 0 where
  pub function : IsFitFunction recipe.function
  pub parts : AreFit recipe.args recipe.envs recipe.inputs recipe.outputs
