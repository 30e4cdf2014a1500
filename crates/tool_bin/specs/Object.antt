-- Objects: what the assembler makes of a text, and their one text.
use Rattle.std.specs.Prelude.{ℕ, List, [], ◌∷◌, ◌++◌, length, map, not, ◌&&◌, Bool, true, false, bytes_eq, codes, decimal, if◌then◌else◌}
use Rattle.std.specs.List.{flat_map, list_all}
use Rattle.thunk_codec.specs.Thunk.{is_identifier}
use Rattle.tool_bin.specs.declared.instruction.Instruction.{Instruction}
use Rattle.tool_bin.specs.declared.object.Symbol.{Symbol}
use Rattle.tool_bin.specs.declared.object.DebugLine.{DebugLine}
use Rattle.tool_bin.specs.declared.object.Object.{Object}
use Rattle.tool_bin.specs.Instruction.{instruction_text}
use Rattle.text_lines.specs.Among.{is_among}

-- the first line of an object
abbrev pub object_head : List ℕ
object_head = codes "gg-obj 1"

-- the first line of an executable
abbrev pub executable_head : List ℕ
executable_head = codes "gg-exe 1"

-- a line of this text
abbrev pub line : List ℕ → List ℕ
line said = said ++ 10 ∷ []

-- `sym NAME COUNT`, and so many instructions
abbrev pub symbol_text : Symbol → List ℕ
symbol_text symbol = line (codes "sym " ++ (symbol.name ++ 32 ∷ decimal (length symbol.code)))
    ++ flat_map (λ instruction. line (instruction_text instruction)) symbol.code

-- `dbg NAME N`
abbrev pub debug_text : DebugLine → List ℕ
debug_text debug = line (codes "dbg " ++ (debug.name ++ 32 ∷ decimal debug.number))

-- the text of an object, or of an executable, by its first line
unfoldable pub object_text : List ℕ → Object → List ℕ
object_text head object = line head
    ++ (flat_map symbol_text object.symbols ++ (flat_map debug_text object.debug ++ line (codes "end")))

-- the names that an object defines
abbrev pub names_of : List Symbol → List (List ℕ)
names_of symbols = map (λ symbol. symbol.name) symbols

-- whether no name is one of those before it
abbrev pub are_new : List (List ℕ) → List (List ℕ) → Bool
are_new before [] = true
are_new before (name ∷ names) = not (is_among before name) && are_new (before ++ name ∷ []) names

-- whether there is code
abbrev pub has_code : List Instruction → Bool
has_code [] = false
has_code (instruction ∷ others) = true

-- whether a symbol is an identifier with code
abbrev pub is_defined : Symbol → Bool
is_defined symbol = is_identifier symbol.name && has_code symbol.code

-- the symbols from the one of this name on
abbrev pub from_named : List ℕ → List Symbol → List Symbol
from_named name [] = []
from_named name (symbol ∷ symbols) = if bytes_eq symbol.name name then symbol ∷ symbols else from_named name symbols

-- whether there is a symbol
abbrev pub has_symbol : List Symbol → Bool
has_symbol [] = false
has_symbol (symbol ∷ symbols) = true

-- whether debug lines stand in the order of the symbols
abbrev pub are_in_order : List Symbol → List DebugLine → Bool
are_in_order symbols [] = true
are_in_order symbols (debug ∷ others) =
    let named = from_named debug.name symbols in has_symbol named && are_in_order named others

-- whether an object is well-formed: each symbol is an identifier with code, no two have one name, and the debug lines stand in
-- the order of the symbols
abbrev pub is_well_formed : Object → Bool
is_well_formed object = list_all is_defined object.symbols
    && (are_new [] (names_of object.symbols) && are_in_order object.symbols object.debug)
