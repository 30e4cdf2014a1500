-- What a command of gcc does, as a plan of steps.
use Rattle.std.specs.Prelude.{◌≡◌, ℕ, ◌-◌, List, [], ◌∷◌, ◌++◌, length, codes, Option, Some, None, Ok}
use Rattle.build_plan.specs.Numbered.{four_digits}
use Rattle.build_plan.specs.declared.plan.Plan.{Plan}
use Rattle.build_plan.specs.declared.plan.Source.TheVariants.{Made}
use Rattle.build_plan.specs.declared.plan.Step.{Step}
use Rattle.build_plan.specs.declared.plan.Step.TheVariants.{Run}
use Rattle.build_plan.specs.declared.plan.Target.TheVariants.{Keep}
use Rattle.model_gcc.specs.declared.gcc_plan.Stop.{Stop}
use Rattle.model_gcc.specs.declared.gcc_plan.Stop.TheVariants.{Preprocess, Compile, Assemble, Link}
use Rattle.model_gcc.specs.declared.gcc_plan.Operand.{Operand}
use Rattle.model_gcc.specs.declared.gcc_plan.Operand.TheVariants.{Source, Preprocessed, Assembly, AssemblySource, Other, Library}
use Rattle.model_gcc.specs.declared.gcc_plan.GccPlan.{GccPlan}
use Rattle.model_gcc.specs.declared.linking.Gathering.{Gathering}
use Rattle.model_gcc.specs.Plan.{plan_of}
use Rattle.model_gcc.specs.Outputs.{file_output, program_output}
use Rattle.model_gcc.specs.Stages.{steps_of}

-- some words have this plan
abbrev pub IsPlanned : GccPlan → Type 0
IsPlanned plan = (words : List (List ℕ)) × (plan_of words ≡ Ok plan)

-- the number of the last of some steps
abbrev pub last_number : List Step → ℕ
last_number steps = length steps - 1

-- the path of an operand that is a file
abbrev pub file_path : Operand → Option (List ℕ)
file_path (Source path) = Some path
file_path (Preprocessed path) = Some path
file_path (Assembly path) = Some path
file_path (AssemblySource path) = Some path
file_path (Other path) = Some path
file_path (Library name) = None

-- ---- a command with a stop

-- no step and no target
abbrev pub nothing_made : Plan
nothing_made = record { steps = []; targets = [] }

-- one more file: what its last step gives is put into its output
abbrev pub with_file : GccPlan → Operand → List ℕ → Plan → Plan
with_file plan operand path made =
    let steps = made.steps ++ steps_of plan (file_output plan path) (length made.steps) operand in
    record { steps = steps; targets = made.targets ++ Keep (file_output plan path) (last_number steps) ∷ [] }

-- one more operand, if it is a file
abbrev pub with_operand : GccPlan → Operand → Option (List ℕ) → Plan → Plan
with_operand plan operand None made = made
with_operand plan operand (Some path) made = with_file plan operand path made

-- some more operands, in order
abbrev pub with_operands : GccPlan → List Operand → Plan → Plan
with_operands plan [] made = made
with_operands plan (operand ∷ operands) made = with_operands plan operands (with_operand plan operand (file_path operand) made)

-- ---- a link

-- nothing is gathered for the linker
abbrev pub nothing_gathered : Gathering
nothing_gathered = record { steps = []; inputs = []; args = [] }

-- one more input of the linker, under its number: what the operand's last step gives
abbrev pub with_input : GccPlan → Operand → Gathering → Gathering
with_input plan operand given =
    let steps = given.steps ++ steps_of plan (program_output plan) (length given.steps) operand in
    let path = four_digits (length given.args) in
    record { steps = steps; inputs = given.inputs ++ (path, Made (last_number steps)) ∷ []; args = given.args ++ path ∷ [] }

-- some more, in order
abbrev pub with_inputs : GccPlan → List Operand → Gathering → Gathering
with_inputs plan [] given = given
with_inputs plan (operand ∷ operands) given = with_inputs plan operands (with_input plan operand given)

-- the linker over what is gathered: its arguments are the paths of its inputs
abbrev pub linked : List ℕ → Gathering → Plan
linked output given = record {
  steps = given.steps ++ Run (record { tool = codes "ld"; args = given.args; inputs = given.inputs; optional = None; target = output }) ∷ [];
  targets = Keep output (length given.steps) ∷ [];
}

-- ---- both

-- a command with a stop puts each file's last stage into that file's output; one without a stop links all operands
abbrev pub build_by : Stop → GccPlan → Plan
build_by Preprocess plan = with_operands plan plan.operands nothing_made
build_by Compile plan = with_operands plan plan.operands nothing_made
build_by Assemble plan = with_operands plan plan.operands nothing_made
build_by Link plan = linked (program_output plan) (with_inputs plan plan.operands nothing_gathered)

abbrev pub build_of : GccPlan → Plan
build_of plan = build_by plan.stop plan
