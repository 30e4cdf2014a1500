-- The operands that words give.
use Rattle.std.specs.Prelude.{◌≡◌, IsTrue, Some}
use Rattle.thunk_codec.specs.Path.{is_path}
use Rattle.model_gcc.specs.declared.gcc_plan.Operand.{Operand}
use Rattle.model_gcc.specs.declared.gcc_plan.Operand.TheVariants.{Source, Preprocessed, Assembly, AssemblySource, Other, Library}
use Rattle.model_gcc.specs.Values.{library_name_of}

-- a file has a path, and a library has a name
abbrev pub IsOperand : Operand → Type 0
IsOperand (Source path) = IsTrue (is_path path)
IsOperand (Preprocessed path) = IsTrue (is_path path)
IsOperand (Assembly path) = IsTrue (is_path path)
IsOperand (AssemblySource path) = IsTrue (is_path path)
IsOperand (Other path) = IsTrue (is_path path)
IsOperand (Library name) = library_name_of name ≡ Some name
