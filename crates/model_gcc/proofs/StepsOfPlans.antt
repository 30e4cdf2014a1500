-- What holds of the steps of each operand and of the linker holds of all steps of a plan.
use Rattle.std.proofs.Common.{ℕ, List, [], ◌∷◌, ◌++◌, length, codes, Option, Some, None}
use Rattle.std.specs.List.{AllByRecursion}
use Rattle.build_plan.specs.declared.plan.Plan.{Plan}
use Rattle.build_plan.specs.declared.plan.Source.{Source as Input}
use Rattle.build_plan.specs.declared.plan.Step.{Step}
use Rattle.build_plan.specs.declared.plan.Step.TheVariants.{Run}
use Rattle.model_gcc.specs.declared.gcc_plan.GccPlan.{GccPlan}
use Rattle.model_gcc.specs.declared.gcc_plan.Operand.{Operand}
use Rattle.model_gcc.specs.declared.gcc_plan.Stop.{Stop}
use Rattle.model_gcc.specs.declared.gcc_plan.Stop.TheVariants.{Preprocess, Compile, Assemble, Link}
use Rattle.model_gcc.specs.declared.linking.Gathering.{Gathering}
use Rattle.model_gcc.specs.Operands.{IsOperand}
use Rattle.model_gcc.specs.Outputs.{file_output, program_output}
use Rattle.model_gcc.specs.PlanOf.{file_path, nothing_made, with_operand, with_operands, nothing_gathered, with_input, with_inputs, build_by, build_of}
use Rattle.model_gcc.specs.Stages.{steps_of}

all-both : (P : Step → Type 0) (xs ys : List Step) → AllByRecursion P xs → AllByRecursion P ys → AllByRecursion P (xs ++ ys)
all-both P [] ys hx hy = hy
all-both P (x ∷ xs) ys hx hy = (hx.0, all-both P xs ys hx.1 hy)

module _ (P : Step → Type 0) (plan : GccPlan) (each : (target : List ℕ) (number : ℕ) (operand : Operand) → IsOperand operand → AllByRecursion P (steps_of plan target number operand)) where
  operand-all : (operand : Operand) (path : Option (List ℕ)) (made : Plan) → IsOperand operand → AllByRecursion P made.steps → AllByRecursion P (with_operand plan operand path made).steps
  operand-all operand None made h m = m
  operand-all operand (Some path) made h m = all-both P made.steps _ m (each (file_output plan path) (length made.steps) operand h)

  operands-all : (operands : List Operand) (made : Plan) → AllByRecursion IsOperand operands → AllByRecursion P made.steps → AllByRecursion P (with_operands plan operands made).steps
  operands-all [] made h m = m
  operands-all (operand ∷ operands) made h m = operands-all operands (with_operand plan operand (file_path operand) made) h.1 (operand-all operand (file_path operand) made h.0 m)

  inputs-all : (operands : List Operand) (given : Gathering) → AllByRecursion IsOperand operands → AllByRecursion P given.steps → AllByRecursion P (with_inputs plan operands given).steps
  inputs-all [] given h m = m
  inputs-all (operand ∷ operands) given h m =
      inputs-all operands (with_input plan operand given) h.1 (all-both P given.steps _ m (each (program_output plan) (length given.steps) operand h.0))

  module _ (link : (args : List (List ℕ)) (inputs : List (List ℕ × Input)) (target : List ℕ) → P (Run (record { tool = codes "ld"; args = args; inputs = inputs; optional = None; target = target }))) where
    build-all : (stop : Stop) → AllByRecursion IsOperand plan.operands → AllByRecursion P (build_by stop plan).steps
    build-all Preprocess h = operands-all plan.operands nothing_made h tt
    build-all Compile h = operands-all plan.operands nothing_made h tt
    build-all Assemble h = operands-all plan.operands nothing_made h tt
    build-all Link h =
        let given = with_inputs plan plan.operands nothing_gathered in
        all-both P given.steps _ (inputs-all plan.operands nothing_gathered h tt) (link given.args given.inputs (program_output plan), tt)

    pub all_steps : AllByRecursion IsOperand plan.operands → AllByRecursion P (build_of plan).steps
    all_steps h = build-all plan.stop h
