-- An object as it is put together, a label, an instruction and a debug line at a time.
use Rattle.std.specs.Prelude.{ℕ, List, [], ◌∷◌, ◌++◌, Option, Some, None}
use Rattle.tool_bin.specs.declared.object_builder.ObjectBuilder.{ObjectBuilder}
use Rattle.tool_bin.specs.declared.instruction.Instruction.{Instruction}
use Rattle.tool_bin.specs.declared.object.Symbol.{Symbol}
use Rattle.tool_bin.specs.declared.object.Object.{Object}

-- the builder of an object without symbols
abbrev pub empty_builder : ObjectBuilder
empty_builder = record { done = []; last = None; debug = [] }

-- all symbols so far
abbrev pub all_symbols : List Symbol → Option Symbol → List Symbol
all_symbols done None = done
all_symbols done (Some symbol) = done ++ symbol ∷ []

-- a label begins a symbol
abbrev pub with_label : List ℕ → ObjectBuilder → ObjectBuilder
with_label name builder = record {
  done = all_symbols builder.done builder.last;
  last = Some (record { name = name; code = [] });
  debug = builder.debug;
}

-- an instruction at the end of a symbol
abbrev pub symbol_with : Instruction → Option Symbol → Option Symbol
symbol_with instruction None = None
symbol_with instruction (Some symbol) = Some (record { name = symbol.name; code = symbol.code ++ instruction ∷ [] })

-- an instruction at the end of the last symbol
abbrev pub with_instruction : Instruction → ObjectBuilder → ObjectBuilder
with_instruction instruction builder = record builder { last = symbol_with instruction builder.last }

-- one more debug line
abbrev pub with_debug : List ℕ → ℕ → ObjectBuilder → ObjectBuilder
with_debug name number builder = record builder { debug = builder.debug ++ (record { name = name; number = number }) ∷ [] }

-- the object that was put together
abbrev pub object_in : ObjectBuilder → Object
object_in builder = record { symbols = all_symbols builder.done builder.last; debug = builder.debug }
