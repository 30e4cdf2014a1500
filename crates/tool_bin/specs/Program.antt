-- Adding objects to a program.
use Rattle.std.specs.Prelude.{ℕ, List, [], ◌∷◌, ◌++◌, fold, not, ◌&&◌, Bool, Option, Some, None, Ok, Err, codes, if◌then◌else◌}
use Rattle.std.specs.List.{list_all, list_any}
use Rattle.tool_bin.specs.declared.instruction.Instruction.{Instruction}
use Rattle.tool_bin.specs.declared.instruction.Instruction.TheVariants.{Call}
use Rattle.tool_bin.specs.declared.link_fault.LinkFault.TheVariants.{DuplicateSymbol, UndefinedSymbol}
use Rattle.tool_bin.specs.declared.program.Program.{Program}
use Rattle.tool_bin.specs.declared.object.Object.{Object}
use Rattle.tool_bin.specs.declared.object.Symbol.{Symbol}
use Rattle.tool_bin.specs.LinkSteps.{Linked}
use Rattle.text_lines.specs.Among.{is_among}
use Rattle.tool_bin.specs.Names.{with_name}

-- the program of no objects: `main` is wanted
abbrev pub empty_program : Program
empty_program = record { symbols = []; debug = []; defined = []; wanted = codes "main" ∷ [] }

-- whether a name is wanted and not defined
abbrev pub is_undefined : Program → List ℕ → Bool
is_undefined program name = is_among program.wanted name && not (is_among program.defined name)

-- the defined names with those of some symbols, if none of these is defined before
abbrev pub defined_with : List (List ℕ) → List Symbol → Option (List (List ℕ))
defined_with defined [] = Some defined
defined_with defined (symbol ∷ symbols) =
    if is_among defined symbol.name then None else defined_with (defined ++ symbol.name ∷ []) symbols

-- the wanted names with what an instruction calls
abbrev pub wanted_by : List (List ℕ) → Instruction → List (List ℕ)
wanted_by wanted (Call name) = with_name wanted name
wanted_by wanted instruction = wanted

-- the wanted names with what some symbols call
abbrev pub wanted_with : List (List ℕ) → List Symbol → List (List ℕ)
wanted_with wanted symbols = fold (λ names symbol. fold wanted_by names symbol.code) wanted symbols

-- an object is added, where its names were found to be new
abbrev pub joined_with : Program → Object → Option (List (List ℕ)) → Linked
joined_with program object None = Err DuplicateSymbol
joined_with program object (Some defined) = Ok (record {
  symbols = program.symbols ++ object.symbols;
  debug = program.debug ++ object.debug;
  defined = defined;
  wanted = wanted_with program.wanted object.symbols;
})

-- an object is added
abbrev pub with_object : Program → Object → Linked
with_object program object = joined_with program object (defined_with program.defined object.symbols)

-- whether an object defines a symbol that is undefined
abbrev pub is_asked : Program → Object → Bool
is_asked program object = list_any (λ symbol. is_undefined program symbol.name) object.symbols

-- an object is added where it defines a symbol that is undefined
abbrev pub with_asked : Program → Object → Linked
with_asked program object = if is_asked program object then with_object program object else Ok program

-- the program, where no symbol is undefined at the end
abbrev pub all_defined : Program → Linked
all_defined program =
    if list_all (λ name. is_among program.defined name) program.wanted then Ok program else Err UndefinedSymbol
