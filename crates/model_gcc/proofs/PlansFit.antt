-- The thunks of a plan keep the rules of thunks.
use Rattle.std.proofs.Common.{◌≡◌, ◌≤◌, ℕ, suc, ◌+◌, ◌*◌, true, List, [], ◌∷◌, ◌++◌, length, map, length-append, append-nil, Option, Some, None, refl, sym, ap, subst, ◌∙◌, arith}
use Rattle.std.specs.Prelude.{codes, Ok}
use Rattle.std.specs.List.{list_all, AllByRecursion}
use Rattle.std.proofs.lemmas.Bool.{and_parts, and_from}
use Rattle.std.proofs.lemmas.List.Sums.{sum_by-cons}
use Rattle.thunk_codec.specs.Fitting.{AreFit, args_bound, paths_bound}
use Rattle.thunk_codec.specs.Path.{is_path}
use Rattle.thunk_codec.specs.Thunk.{has_no_zero, is_strictly_increasing}
use Rattle.thunk_codec.proofs.PublicLaws.{path_length, in_is_path}
use Rattle.build_plan.specs.declared.plan.Plan.{Plan}
use Rattle.build_plan.specs.declared.plan.Source.{Source as Input}
use Rattle.build_plan.specs.declared.plan.Source.TheVariants.{File, Made}
use Rattle.build_plan.specs.declared.plan.Step.{Step}
use Rattle.build_plan.specs.declared.plan.Step.TheVariants.{Read, Find}
use Rattle.build_plan.specs.Fitting.{IsFitStep, IsFitPlan}
use Rattle.build_plan.specs.Numbered.{four_digits}
use Rattle.build_plan.specs.Symbolic.{one_output}
use Rattle.build_plan.proofs.PublicLaws.{stage_fits}
use Rattle.model_gcc.specs.declared.gcc_plan.Stop.{Stop}
use Rattle.model_gcc.specs.declared.gcc_plan.Stop.TheVariants.{Preprocess, Compile, Assemble, Link}
use Rattle.model_gcc.specs.declared.gcc_plan.Operand.{Operand}
use Rattle.model_gcc.specs.declared.gcc_plan.Operand.TheVariants.{Source, Preprocessed, Assembly, AssemblySource, Other, Library}
use Rattle.model_gcc.specs.declared.gcc_plan.GccPlan.{GccPlan}
use Rattle.model_gcc.specs.declared.linking.Gathering.{Gathering}
use Rattle.model_gcc.specs.Libraries.{library_file, library_places}
use Rattle.model_gcc.specs.Operands.{IsOperand}
use Rattle.model_gcc.specs.Outputs.{file_output, program_output}
use Rattle.model_gcc.specs.Plan.{plan_of}
use Rattle.model_gcc.specs.PlanOf.{last_number, file_path, nothing_made, with_operand, with_operands, nothing_gathered, with_input, with_inputs, build_by, build_of}
use Rattle.model_gcc.specs.Stages.{preprocess, compile, assemble, assembling, compiling, linking, steps_of}
use Rattle.model_gcc.proofs.FoldersAreShort.{path_no_zero}
use Rattle.model_gcc.proofs.NumbersInOrder.{numbers, numbers_rise, numbers_are_paths, numbers_no_zero, numbers_count, numbers_args, numbers_paths, numbers_more, no_numbers}
use Rattle.model_gcc.proofs.PlansAreSmall.{IsSmall, plan_small}

-- ---- the parts of a thunk

-- such parts, whatever their REFs
parts_are_fit : (args paths : List (List ℕ)) → list_all has_no_zero args ≡ true → list_all is_path paths ≡ true → is_strictly_increasing paths ≡ true → length paths ≤ 4096
    → args_bound args + paths_bound paths ≤ 16000000 → AreFit args [] paths one_output
parts_are_fit args paths zero path rising few small = stage_fits args paths few zero rising path (omega (arith, small))

paths_short : (paths : List (List ℕ)) → list_all is_path paths ≡ true → paths_bound paths ≤ 1096 * length paths
paths_short [] h = omega arith
paths_short (path ∷ paths) h =
    let parts = and_parts (is_path path) (list_all is_path paths) h in
    let rest = paths_short paths parts.1 in
    let one = path_length path parts.0 in
    let all = sum_by-cons (λ (p : List ℕ). 72 + length p) path paths in
    omega (arith, rest, one, all)

-- ---- stages

module _ (plan : GccPlan) (s : IsSmall plan) (target : List ℕ) where
  preprocess_fits : (path : List ℕ) → is_path path ≡ true → IsFitStep (preprocess plan target path)
  preprocess_fits path h = record {
    card = omega arith;
    parts = λ paths are_paths rising few.
        (let small = s.small in
        let one = path_length path h in
        let short = paths_short paths are_paths in
        let all = sum_by-cons (λ (arg : List ℕ). 12 + length arg) path plan.cpp_words in
        parts_are_fit (path ∷ plan.cpp_words) paths (and_from _ _ (path_no_zero path h) s.cpp) are_paths rising few (omega (arith, small, one, short, few, all)));
  }

  compile_fits : (input : Input) → IsFitStep (compile plan target input)
  compile_fits input = record {
    card = omega arith;
    parts = λ files. (let small = s.small in parts_are_fit plan.cc_words (codes "in" ∷ []) s.cc (and_from _ _ in_is_path refl) refl (omega arith) (omega (arith, small)));
  }

  assemble_fits : (input : Input) → IsFitStep (assemble plan target input)
  assemble_fits input = record {
    card = omega arith;
    parts = λ files. parts_are_fit [] (codes "in" ∷ []) refl (and_from _ _ in_is_path refl) refl (omega arith) (omega arith);
  }

  assembling_fits : (stop : Stop) (input : Input) → AllByRecursion IsFitStep (assembling plan target stop input)
  assembling_fits Preprocess input = tt
  assembling_fits Compile input = tt
  assembling_fits Assemble input = (assemble_fits input, tt)
  assembling_fits Link input = (assemble_fits input, tt)

  compiling_fits : (stop : Stop) (number : ℕ) (input : Input) → AllByRecursion IsFitStep (compiling plan target stop number input)
  compiling_fits Preprocess number input = tt
  compiling_fits Compile number input = (compile_fits input, tt)
  compiling_fits Assemble number input = (compile_fits input, (assemble_fits (Made number), tt))
  compiling_fits Link number input = (compile_fits input, (assemble_fits (Made number), tt))

  linking_fits : (stop : Stop) (step : Step) → IsFitStep step → AllByRecursion IsFitStep (linking plan target stop step)
  linking_fits Preprocess step h = tt
  linking_fits Compile step h = tt
  linking_fits Assemble step h = tt
  linking_fits Link step h = (h, tt)

  steps_fit : (number : ℕ) (operand : Operand) → IsOperand operand → AllByRecursion IsFitStep (steps_of plan target number operand)
  steps_fit number (Source path) h = (preprocess_fits path h, compiling_fits plan.stop (number + 1) (Made number))
  steps_fit number (AssemblySource path) h = (preprocess_fits path h, assembling_fits plan.stop (Made number))
  steps_fit number (Preprocessed path) h = compiling_fits plan.stop number (File path)
  steps_fit number (Assembly path) h = assembling_fits plan.stop (File path)
  steps_fit number (Other path) h = linking_fits plan.stop (Read path) tt
  steps_fit number (Library name) h = linking_fits plan.stop (Find (library_file name) (library_places plan.lib_folders name)) tt

-- ---- all operands

all-append : (xs ys : List Step) → AllByRecursion IsFitStep xs → AllByRecursion IsFitStep ys → AllByRecursion IsFitStep (xs ++ ys)
all-append [] ys hx hy = hy
all-append (x ∷ xs) ys hx hy = (hx.0, all-append xs ys hx.1 hy)

operand_fits : (plan : GccPlan) → IsSmall plan → (operand : Operand) (path : Option (List ℕ)) (made : Plan) → IsOperand operand → IsFitPlan made → IsFitPlan (with_operand plan operand path made)
operand_fits plan s operand None made h m = m
operand_fits plan s operand (Some path) made h m =
    all-append made.steps (steps_of plan (file_output plan path) (length made.steps) operand) m (steps_fit plan s (file_output plan path) (length made.steps) operand h)

operands_fit : (plan : GccPlan) → IsSmall plan → (operands : List Operand) (made : Plan) → AllByRecursion IsOperand operands → IsFitPlan made → IsFitPlan (with_operands plan operands made)
operands_fit plan s [] made h m = m
operands_fit plan s (operand ∷ operands) made h m =
    operands_fit plan s operands (with_operand plan operand (file_path operand) made) h.1 (operand_fits plan s operand (file_path operand) made h.0 m)

-- ---- the linker

-- the inputs of the linker are numbered
record IsNumbered (given : Gathering) : Type 0 where
  steps : AllByRecursion IsFitStep given.steps
  args : given.args ≡ numbers 0 (length given.args)
  inputs : map (λ input. input.0) given.inputs ≡ given.args

paths-more : (inputs : List (List ℕ × Input)) (path : List ℕ) (input : Input) → map (λ (i : List ℕ × Input). i.0) (inputs ++ (path, input) ∷ []) ≡ map (λ (i : List ℕ × Input). i.0) inputs ++ path ∷ []
paths-more [] path input = refl
paths-more (first ∷ others) path input = ap (λ (v : List (List ℕ)). first.0 ∷ v) (paths-more others path input)

args-next : (args : List (List ℕ)) → args ≡ numbers 0 (length args) → args ++ four_digits (length args) ∷ [] ≡ numbers 0 (length (args ++ four_digits (length args) ∷ []))
args-next args e =
    let count : suc (length args) ≡ length (args ++ four_digits (length args) ∷ []) = (let whole = length-append args (four_digits (length args) ∷ []) in omega (arith, whole)) in
    ap (λ (v : List (List ℕ)). v ++ four_digits (length args) ∷ []) e
    ∙ ap (λ (n : ℕ). numbers 0 (length args) ++ four_digits n ∷ []) (let n : length args ≡ 0 + length args = omega arith in n)
    ∙ numbers_more 0 (length args) ∙ ap (numbers 0) count

input_numbered : (plan : GccPlan) → IsSmall plan → (operand : Operand) (given : Gathering) → IsOperand operand → IsNumbered given → IsNumbered (with_input plan operand given)
input_numbered plan s operand given h g =
    let steps = given.steps ++ steps_of plan (program_output plan) (length given.steps) operand in
    record {
      steps = all-append given.steps (steps_of plan (program_output plan) (length given.steps) operand) g.steps (steps_fit plan s (program_output plan) (length given.steps) operand h);
      args = args-next given.args g.args;
      inputs = paths-more given.inputs (four_digits (length given.args)) (Made (last_number steps)) ∙ ap (λ (v : List (List ℕ)). v ++ four_digits (length given.args) ∷ []) g.inputs;
    }

inputs_numbered : (plan : GccPlan) → IsSmall plan → (operands : List Operand) (given : Gathering) → AllByRecursion IsOperand operands → IsNumbered given → IsNumbered (with_inputs plan operands given)
inputs_numbered plan s [] given h g = g
inputs_numbered plan s (operand ∷ operands) given h g = inputs_numbered plan s operands (with_input plan operand given) h.1 (input_numbered plan s operand given h.0 g)

inputs_count : (plan : GccPlan) (operands : List Operand) (given : Gathering) → length (with_inputs plan operands given).args ≡ length given.args + length operands
inputs_count plan [] given = omega arith
inputs_count plan (operand ∷ operands) given =
    let rest = inputs_count plan operands (with_input plan operand given) in
    let one = length-append given.args (four_digits (length given.args) ∷ []) in
    omega (arith, rest, one)

numbers_fit : (count : ℕ) → count ≤ 4096 → AreFit (numbers 0 count) [] (numbers 0 count) one_output
numbers_fit count h =
    let a = numbers_args 0 count in
    let p = numbers_paths 0 count in
    let n = numbers_count 0 count in
    parts_are_fit (numbers 0 count) (numbers 0 count) (numbers_no_zero 0 count) (numbers_are_paths 0 count) (numbers_rise 0 count (omega (arith, h))) (omega (arith, n, h)) (omega (arith, a, p, h))

args_fit : (args paths : List (List ℕ)) → args ≡ numbers 0 (length args) → paths ≡ args → length args ≤ 4096 → AreFit args [] paths one_output
args_fit args paths e same h =
    subst (λ (v : List (List ℕ)). AreFit v [] paths one_output) (sym e)
    (subst (λ (v : List (List ℕ)). AreFit (numbers 0 (length args)) [] v one_output) (sym (same ∙ e)) (numbers_fit (length args) h))

link_fits : (plan : GccPlan) → IsSmall plan → IsFitPlan (build_by Link plan)
link_fits plan s =
    let given = with_inputs plan plan.operands nothing_gathered in
    let start : IsNumbered nothing_gathered = record { steps = tt; args = sym (no_numbers 0); inputs = refl } in
    let g : IsNumbered given = inputs_numbered plan s plan.operands nothing_gathered s.operands start in
    let few = s.few in
    let count = inputs_count plan plan.operands nothing_gathered in
    all-append given.steps _ g.steps (
      record {
        card = omega arith;
        parts = λ files. args_fit given.args (map (λ (i : List ℕ × Input). i.0) (given.inputs ++ [])) g.args (ap (map (λ (i : List ℕ × Input). i.0)) (append-nil given.inputs) ∙ g.inputs) (omega (arith, few, count));
      },
      tt,
    )

build_fits : (stop : Stop) (plan : GccPlan) → IsSmall plan → IsFitPlan (build_by stop plan)
build_fits Preprocess plan s = operands_fit plan s plan.operands nothing_made s.operands tt
build_fits Compile plan s = operands_fit plan s plan.operands nothing_made s.operands tt
build_fits Assemble plan s = operands_fit plan s plan.operands nothing_made s.operands tt
build_fits Link plan s = link_fits plan s

-- each plan of some words fits
pub plans_fit : (words : List (List ℕ)) (plan : GccPlan) → plan_of words ≡ Ok plan → IsFitPlan (build_of plan)
plans_fit words plan e = build_fits plan.stop plan (plan_small words plan e)
