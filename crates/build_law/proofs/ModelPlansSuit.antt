-- The plans of the models suit the cards.
use Rattle.std.proofs.Common.{◌≡◌, ℕ, zero, suc, true, false, List, [], ◌∷◌, map, Option, Some, Ok, refl}
use Rattle.std.specs.Prelude.{slice_get}
use Rattle.std.specs.List.{AllByRecursion}
use Rattle.build_plan.specs.declared.plan.Plan.{Plan}
use Rattle.build_plan.specs.declared.plan.Source.{Source as Input}
use Rattle.build_plan.specs.declared.plan.Source.TheVariants.{File, Made}
use Rattle.build_plan.specs.declared.plan.Step.{Step}
use Rattle.build_plan.specs.declared.plan.Step.TheVariants.{Read, Take, Find, Run, Scan}
use Rattle.model_gcc.specs.declared.gcc_plan.GccPlan.{GccPlan}
use Rattle.model_gcc.specs.Plan as gcc
use Rattle.model_gcc.specs.PlanOf as gcc_plan
use Rattle.model_gcc.proofs.PublicLaws as gcc_laws
use Rattle.model_binutils.specs.declared.bin_plan.BinPlan.{BinPlan}
use Rattle.model_binutils.specs.declared.bin_plan.BinPlan.TheVariants as bin
use Rattle.model_binutils.specs.Plan as binutils
use Rattle.model_binutils.specs.PlanOf.{strip_step}
use Rattle.model_binutils.specs.PlanOf as binutils_plan
use Rattle.model_binutils.proofs.PublicLaws as binutils_laws
use Rattle.build_script.specs.WholeTree.{ScansForCpp}
use Rattle.build_script.proofs.StepsOfCommands.{gcc-steps}
use Rattle.build_law.specs.CardBuilds.{SuitsCards}
use Rattle.build_law.specs.Suiting.{is_take, IsUntaken, GivesUntaken}

-- ---- steps of which none takes bytes as they are

-- a step takes no bytes as they are, and scans for the preprocessor alone
abbrev IsPlain : Step → Type 0
IsPlain step = (is_take (Some step) ≡ false) × ScansForCpp step

none-taken : (steps : List Step) → AllByRecursion IsPlain steps → (place : ℕ) → is_take (slice_get steps place) ≡ false
none-taken [] h place = refl
none-taken (step ∷ steps) h zero = h.0.0
none-taken (step ∷ steps) h (suc place) = none-taken steps h.1 place

inputs-untaken : (steps : List Step) → AllByRecursion IsPlain steps → (inputs : List (List ℕ × Input)) → AllByRecursion (λ input. IsUntaken steps input.1) inputs
inputs-untaken steps h [] = tt
inputs-untaken steps h (input ∷ inputs) = (by input.1, inputs-untaken steps h inputs)
  where
    by : (source : Input) → IsUntaken steps source
    by (File path) = tt
    by (Made place) = none-taken steps h place

steps-untaken : (all : List Step) → AllByRecursion IsPlain all → (steps : List Step) → AllByRecursion (GivesUntaken all) steps
steps-untaken all h [] = tt
steps-untaken all h (step ∷ steps) = (by step, steps-untaken all h steps)
  where
    by : (step : Step) → GivesUntaken all step
    by (Read path) = tt
    by (Take path) = tt
    by (Find missing places) = tt
    by (Run stage) = inputs-untaken all h stage.inputs
    by (Scan scanning) = tt

steps-scan : (steps : List Step) → AllByRecursion IsPlain steps → AllByRecursion ScansForCpp steps
steps-scan [] h = tt
steps-scan (step ∷ steps) h = (h.0.1, steps-scan steps h.1)

-- ---- gcc

pub gcc-suits : (words : List (List ℕ)) (plan : GccPlan) → gcc.plan_of words ≡ Ok plan → SuitsCards (gcc_plan.build_of plan)
gcc-suits words plan is =
    let plain = gcc-steps IsPlain (λ path. (refl, tt)) (λ missing places. (refl, tt)) (λ stage. (refl, tt)) (λ scanning cpp. (refl, cpp)) words plan is in
    record {
      fit = gcc_laws.plans_fit words plan is;
      untaken = steps-untaken (gcc_plan.build_of plan).steps plain (gcc_plan.build_of plan).steps;
      scans = steps-scan (gcc_plan.build_of plan).steps plain;
    }

-- ---- ar, ranlib, strip, cp, mv and rm

strips-plain : (output : Option (List ℕ)) (files : List (List ℕ)) → AllByRecursion IsPlain (map (strip_step output) files)
strips-plain output [] = tt
strips-plain output (path ∷ files) = ((refl, tt), strips-plain output files)

-- no tool is given what a step takes, and no source is scanned
abbrev IsSimple : Plan → Type 0
IsSimple plan = AllByRecursion (GivesUntaken plan.steps) plan.steps × AllByRecursion ScansForCpp plan.steps

plain-simple : (plan : Plan) → AllByRecursion IsPlain plan.steps → IsSimple plan
plain-simple plan plain = (steps-untaken plan.steps plain plan.steps, steps-scan plan.steps plain)

binutils-simple : (plan : BinPlan) → IsSimple (binutils_plan.build_of plan)
binutils-simple (bin.Ar true table archive members) = plain-simple (binutils_plan.build_of (bin.Ar true table archive members)) ((refl, tt), tt)
binutils-simple (bin.Ar false table archive members) = plain-simple (binutils_plan.build_of (bin.Ar false table archive members)) ((refl, tt), tt)
binutils-simple (bin.Ranlib archive) = plain-simple (binutils_plan.build_of (bin.Ranlib archive)) ((refl, tt), tt)
binutils-simple (bin.Strip output files) = plain-simple (binutils_plan.build_of (bin.Strip output files)) (strips-plain output files)
binutils-simple (bin.Copy from to) = ((tt, tt), (tt, tt))
binutils-simple (bin.Move from to) = ((tt, tt), (tt, tt))
binutils-simple (bin.Remove paths) = (tt, tt)
binutils-simple bin.Nothing = (tt, tt)

pub binutils-suits : (words : List (List ℕ)) (plan : BinPlan) → binutils.plan_of words ≡ Ok plan → SuitsCards (binutils_plan.build_of plan)
binutils-suits words plan is = let simple = binutils-simple plan in record { fit = binutils_laws.plans_fit words plan is; untaken = simple.0; scans = simple.1 }
