-- The stages of gcc for an operand: which tools work on it, one after another, up to a stop.
use Rattle.std.specs.Prelude.{ℕ, ◌+◌, List, [], ◌∷◌, codes, None}
use Rattle.build_plan.specs.declared.plan.Source.{Source as Input}
use Rattle.build_plan.specs.declared.plan.Source.TheVariants.{File, Made}
use Rattle.build_plan.specs.declared.plan.Step.{Step}
use Rattle.build_plan.specs.declared.plan.Step.TheVariants.{Read, Find, Run, Scan}
use Rattle.model_gcc.specs.declared.gcc_plan.Stop.{Stop}
use Rattle.model_gcc.specs.declared.gcc_plan.Stop.TheVariants.{Preprocess, Compile, Assemble, Link}
use Rattle.model_gcc.specs.declared.gcc_plan.Operand.{Operand}
use Rattle.model_gcc.specs.declared.gcc_plan.Operand.TheVariants.{Source, Preprocessed, Assembly, AssemblySource, Other, Library}
use Rattle.model_gcc.specs.declared.gcc_plan.GccPlan.{GccPlan}
use Rattle.model_gcc.specs.Libraries.{library_file, library_places}

-- a tool that has one input, `in`
abbrev pub run_over : List ℕ → List (List ℕ) → Input → List ℕ → Step
run_over tool args input target = Run (record { tool = tool; args = args; inputs = (codes "in", input) ∷ []; optional = None; target = target })

module _ (plan : GccPlan) (target : List ℕ) where
  -- the preprocessor over a source and what it may include; its arguments are the source's path and then `-I`, `-D` and `-U`
  abbrev pub preprocess : List ℕ → Step
  preprocess path =
      Scan (record { tool = codes "cpp"; args = path ∷ plan.cpp_words; folders = plan.include_folders; source = path; target = target })

  -- the compiler, with the words that are passed on
  abbrev pub compile : Input → Step
  compile input = run_over (codes "cc1") plan.cc_words input target

  -- the assembler, without arguments
  abbrev pub assemble : Input → Step
  assemble input = run_over (codes "as") [] input target

  -- what is left to do with an assembler text, up to a stop
  abbrev pub assembling : Stop → Input → List Step
  assembling Preprocess input = []
  assembling Compile input = []
  assembling Assemble input = assemble input ∷ []
  assembling Link input = assemble input ∷ []

  -- what is left to do with a preprocessed text, where the next step has this number
  abbrev pub compiling : Stop → ℕ → Input → List Step
  compiling Preprocess number input = []
  compiling Compile number input = compile input ∷ []
  compiling Assemble number input = compile input ∷ assemble (Made number) ∷ []
  compiling Link number input = compile input ∷ assemble (Made number) ∷ []

  -- what a link alone gathers
  abbrev pub linking : Stop → Step → List Step
  linking Preprocess step = []
  linking Compile step = []
  linking Assemble step = []
  linking Link step = step ∷ []

  -- the steps of an operand, of which the first has this number
  abbrev pub steps_of : ℕ → Operand → List Step
  steps_of number (Source path) = preprocess path ∷ compiling plan.stop (number + 1) (Made number)
  steps_of number (AssemblySource path) = preprocess path ∷ assembling plan.stop (Made number)
  steps_of number (Preprocessed path) = compiling plan.stop number (File path)
  steps_of number (Assembly path) = assembling plan.stop (File path)
  steps_of number (Other path) = linking plan.stop (Read path)
  steps_of number (Library name) = linking plan.stop (Find (library_file name) (library_places plan.lib_folders name))
