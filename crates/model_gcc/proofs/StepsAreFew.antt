-- Operands taken one after another: each has at most three steps.
use Rattle.std.proofs.Common.{◌≡◌, ◌≤◌, ◌<◌, ◌^◌, ℕ, ◌+◌, ◌-◌, ◌*◌, List, [], ◌∷◌, length, take, drop, get_or, length-append, Option, Some, None, refl, sym, ap, subst, ◌∙◌, arith}
use Rattle.std.specs.List.{AllByRecursion}
use Rattle.std.proofs.lemmas.List.{take_rest}
use Rattle.build_plan.specs.declared.plan.Plan.{Plan}
use Rattle.build_plan.specs.declared.plan.Source.{Source as Input}
use Rattle.build_plan.specs.declared.plan.Source.TheVariants.{File, Made}
use Rattle.build_plan.specs.declared.plan.Step.{Step}
use Rattle.model_gcc.specs.declared.gcc_plan.Stop.{Stop}
use Rattle.model_gcc.specs.declared.gcc_plan.Stop.TheVariants.{Preprocess, Compile, Assemble, Link}
use Rattle.model_gcc.specs.declared.gcc_plan.Operand.{Operand}
use Rattle.model_gcc.specs.declared.gcc_plan.Operand.TheVariants.{Source, Preprocessed, Assembly, AssemblySource, Other, Library}
use Rattle.model_gcc.specs.declared.gcc_plan.GccPlan.{GccPlan}
use Rattle.model_gcc.specs.declared.linking.Gathering.{Gathering}
use Rattle.build_plan.specs.declared.plan.Step.TheVariants.{Read, Find}
use Rattle.model_gcc.specs.Libraries.{library_file, library_places}
use Rattle.model_gcc.specs.Checks.{max_operands}
use Rattle.model_gcc.specs.Operands.{IsOperand}
use Rattle.model_gcc.specs.Outputs.{file_output, program_output}
use Rattle.model_gcc.specs.Stages.{assembling, compiling, linking, steps_of}
use Rattle.model_gcc.specs.PlanOf.{file_path, nothing_made, with_operand, with_operands, nothing_gathered, with_input, with_inputs}

module _ (plan : GccPlan) (target : List ℕ) where
  assembling_few : (stop : Stop) (input : Input) → length (assembling plan target stop input) ≤ 1
  assembling_few Preprocess input = omega arith
  assembling_few Compile input = omega arith
  assembling_few Assemble input = omega arith
  assembling_few Link input = omega arith

  compiling_few : (stop : Stop) (number : ℕ) (input : Input) → length (compiling plan target stop number input) ≤ 2
  compiling_few Preprocess number input = omega arith
  compiling_few Compile number input = omega arith
  compiling_few Assemble number input = omega arith
  compiling_few Link number input = omega arith

  linking_few : (stop : Stop) (step : Step) → length (linking plan target stop step) ≤ 1
  linking_few Preprocess step = omega arith
  linking_few Compile step = omega arith
  linking_few Assemble step = omega arith
  linking_few Link step = omega arith

  -- an operand has at most three steps
  pub steps_few : (number : ℕ) (operand : Operand) → length (steps_of plan target number operand) ≤ 3
  steps_few number (Source path) = let h = compiling_few plan.stop (number + 1) (Made number) in omega (arith, h)
  steps_few number (AssemblySource path) = let h = assembling_few plan.stop (Made number) in omega (arith, h)
  steps_few number (Preprocessed path) = let h = compiling_few plan.stop number (File path) in omega (arith, h)
  steps_few number (Assembly path) = let h = assembling_few plan.stop (File path) in omega (arith, h)
  steps_few number (Other path) = let h = linking_few plan.stop (Read path) in omega (arith, h)
  steps_few number (Library name) = let h = linking_few plan.stop (Find (library_file name) (library_places plan.lib_folders name)) in omega (arith, h)

-- ---- a command with a stop

-- what is made so far goes on to what is made of all operands
pub record Makes (plan : GccPlan) (rest : List Operand) (made : Plan) : Type 0 where
  pub same : with_operands plan rest made ≡ with_operands plan plan.operands nothing_made
  pub operands : AllByRecursion IsOperand rest
  pub few : length made.steps + 3 * length rest ≤ 3 * max_operands

operand_few : (plan : GccPlan) (operand : Operand) (path : Option (List ℕ)) (made : Plan) → length (with_operand plan operand path made).steps ≤ length made.steps + 3
operand_few plan operand None made = omega arith
operand_few plan operand (Some path) made =
    let own = steps_few plan (file_output plan path) (length made.steps) operand in
    let whole = length-append made.steps (steps_of plan (file_output plan path) (length made.steps) operand) in
    omega (arith, own, whole)

pub makes_first : (plan : GccPlan) → length plan.operands ≤ max_operands → AllByRecursion IsOperand plan.operands → Makes plan plan.operands nothing_made
makes_first plan few operands = record { same = refl; operands = operands; few = omega (arith, few) }

pub makes_next : (plan : GccPlan) (rest : List Operand) (made more : Plan) (operand : Operand) → 1 ≤ length rest → operand ≡ get_or rest 0 operand → Makes plan rest made
    → more ≡ with_operand plan operand (file_path operand) made → Makes plan (take (length rest - 1) (drop 1 rest)) more
makes_next plan [] made more operand some is h now = absurd (omega (arith, some))
makes_next plan (first ∷ others) made more operand some is h now =
    let all : more ≡ with_operand plan first (file_path first) made = now ∙ ap (λ (v : Operand). with_operand plan v (file_path v) made) is in
    let own = operand_few plan first (file_path first) made in
    let few = h.few in
    let next : Makes plan others more = rw all (record { same = h.same; operands = h.operands.1; few = omega (arith, own, few) }) in
    subst (λ (v : List Operand). Makes plan v more) (sym (take_rest (first ∷ others) 1)) next

pub makes_operand : (plan : GccPlan) (rest : List Operand) (made : Plan) (operand : Operand) → 1 ≤ length rest → operand ≡ get_or rest 0 operand → Makes plan rest made → IsOperand operand
makes_operand plan [] made operand some is h = absurd (omega (arith, some))
makes_operand plan (first ∷ others) made operand some is h = subst IsOperand (sym is) h.operands.0

pub makes_few : (plan : GccPlan) (rest : List Operand) (made : Plan) → 1 ≤ length rest → Makes plan rest made → length made.steps + 3 < 2 ^ 32
makes_few plan rest made some h = let few = h.few in omega (arith, few, some)

pub makes_all : (plan : GccPlan) (rest : List Operand) (made : Plan) → length rest < 1 → Makes plan rest made → made ≡ with_operands plan plan.operands nothing_made
makes_all plan [] made none h = h.same
makes_all plan (first ∷ others) made none h = absurd (omega (arith, none))

-- ---- a link

-- what is gathered so far goes on to what all operands give
pub record Gathers (plan : GccPlan) (rest : List Operand) (given : Gathering) : Type 0 where
  pub same : with_inputs plan rest given ≡ with_inputs plan plan.operands nothing_gathered
  pub operands : AllByRecursion IsOperand rest
  pub few : length given.steps + 3 * length rest ≤ 3 * max_operands

input_few : (plan : GccPlan) (operand : Operand) (given : Gathering) → length (with_input plan operand given).steps ≤ length given.steps + 3
input_few plan operand given =
    let own = steps_few plan (program_output plan) (length given.steps) operand in
    let whole = length-append given.steps (steps_of plan (program_output plan) (length given.steps) operand) in
    omega (arith, own, whole)

pub gathers_first : (plan : GccPlan) → length plan.operands ≤ max_operands → AllByRecursion IsOperand plan.operands → Gathers plan plan.operands nothing_gathered
gathers_first plan few operands = record { same = refl; operands = operands; few = omega (arith, few) }

pub gathers_next : (plan : GccPlan) (rest : List Operand) (given more : Gathering) (operand : Operand) → 1 ≤ length rest → operand ≡ get_or rest 0 operand → Gathers plan rest given
    → more ≡ with_input plan operand given → Gathers plan (take (length rest - 1) (drop 1 rest)) more
gathers_next plan [] given more operand some is h now = absurd (omega (arith, some))
gathers_next plan (first ∷ others) given more operand some is h now =
    let all : more ≡ with_input plan first given = now ∙ ap (λ (v : Operand). with_input plan v given) is in
    let own = input_few plan first given in
    let few = h.few in
    let next : Gathers plan others more = rw all (record { same = h.same; operands = h.operands.1; few = omega (arith, own, few) }) in
    subst (λ (v : List Operand). Gathers plan v more) (sym (take_rest (first ∷ others) 1)) next

pub gathers_operand : (plan : GccPlan) (rest : List Operand) (given : Gathering) (operand : Operand) → 1 ≤ length rest → operand ≡ get_or rest 0 operand → Gathers plan rest given → IsOperand operand
gathers_operand plan [] given operand some is h = absurd (omega (arith, some))
gathers_operand plan (first ∷ others) given operand some is h = subst IsOperand (sym is) h.operands.0

pub gathers_few : (plan : GccPlan) (rest : List Operand) (given : Gathering) → 1 ≤ length rest → Gathers plan rest given → length given.steps + 3 < 2 ^ 32
gathers_few plan rest given some h = let few = h.few in omega (arith, few, some)

pub gathers_all : (plan : GccPlan) (rest : List Operand) (given : Gathering) → length rest < 1 → Gathers plan rest given → given ≡ with_inputs plan plan.operands nothing_gathered
gathers_all plan [] given none h = h.same
gathers_all plan (first ∷ others) given none h = absurd (omega (arith, none))
