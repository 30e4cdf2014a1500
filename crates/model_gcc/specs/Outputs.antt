-- Where gcc puts what it makes.
use Rattle.std.specs.Prelude.{ℕ, ◌-◌, List, ◌++◌, length, take, unwrap_or, codes}
use Rattle.thunk_codec.specs.Folder.{last_of}
use Rattle.model_gcc.specs.declared.gcc_plan.Stop.{Stop}
use Rattle.model_gcc.specs.declared.gcc_plan.Stop.TheVariants.{Preprocess, Compile, Assemble, Link}
use Rattle.model_gcc.specs.declared.gcc_plan.GccPlan.{GccPlan}

-- the suffix of what the stages up to a stop make
abbrev pub suffix_after : Stop → List ℕ
suffix_after Preprocess = codes ".i"
suffix_after Compile = codes ".s"
suffix_after Assemble = codes ".o"
suffix_after Link = codes ".o"

-- a component with another suffix of two bytes
abbrev pub with_suffix : List ℕ → List ℕ → List ℕ
with_suffix suffix component = take (length component - 2) component ++ suffix

-- where a command with a stop puts what is made of the file at a path: what `-o` names, or else a file in the root folder, of the last
-- component with another suffix
abbrev pub file_output : GccPlan → List ℕ → List ℕ
file_output plan path = unwrap_or plan.output (with_suffix (suffix_after plan.stop) (last_of path))

-- where a link puts the program
abbrev pub program_output : GccPlan → List ℕ
program_output plan = unwrap_or plan.output (codes "a.out")
