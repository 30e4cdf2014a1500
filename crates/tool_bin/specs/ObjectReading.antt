-- Reading an object from its text.
use Rattle.std.specs.Prelude.{ℕ, List, [], ◌∷◌, ◌&&◌, Option, Some, None, bytes_eq, codes, if◌then◌else◌}
use Rattle.object_name.specs.Number.{number_of}
use Rattle.text_lines.specs.Lines.{lines_of}
use Rattle.text_lines.specs.Blanks.{words_of}
use Rattle.text_lines.specs.Maybe.{◌>>=◌}
use Rattle.tool_bin.specs.declared.object_builder.ObjectBuilder.{ObjectBuilder}
use Rattle.tool_bin.specs.declared.instruction.Instruction.{Instruction}
use Rattle.tool_bin.specs.declared.object.Object.{Object}
use Rattle.tool_bin.specs.ObjectBuilder.{empty_builder, with_label, with_instruction, with_debug, object_in}
use Rattle.tool_bin.specs.Instruction.{instruction_of}
use Rattle.tool_bin.specs.Object.{object_head, object_text, is_well_formed, names_of}

-- with the debug line that says a number
abbrev pub with_numbered : List ℕ → Option ℕ → ObjectBuilder → ObjectBuilder
with_numbered name None builder = builder
with_numbered name (Some number) builder = with_debug name number builder

-- with the instruction of a line
abbrev pub with_read_code : Option Instruction → ObjectBuilder → ObjectBuilder
with_read_code None builder = builder
with_read_code (Some instruction) builder = with_instruction instruction builder

-- with what a line of three words says: `sym NAME COUNT` or `dbg NAME N`
abbrev pub with_three : List ℕ → List ℕ → List ℕ → ObjectBuilder → ObjectBuilder
with_three kind name number builder =
    if bytes_eq kind (codes "sym") then with_label name builder
    else if bytes_eq kind (codes "dbg") then with_numbered name (number_of number) builder
    else builder

-- the three words of a line that has three
abbrev pub three_of : List (List ℕ) → Option (List ℕ × List ℕ × List ℕ)
three_of (kind ∷ name ∷ number ∷ []) = Some (kind, name, number)
three_of words = None

-- with a line of three words, or else with an instruction
abbrev pub with_either : Option (List ℕ × List ℕ × List ℕ) → Option Instruction → ObjectBuilder → ObjectBuilder
with_either None instruction builder = with_read_code instruction builder
with_either (Some three) instruction builder = with_three three.0 three.1 three.2 builder

-- with what a line says
abbrev pub with_words : List (List ℕ) → ObjectBuilder → ObjectBuilder
with_words words builder = with_either (three_of words) (instruction_of words) builder

-- with what some lines say
abbrev pub with_read_lines : List (List ℕ) → ObjectBuilder → ObjectBuilder
with_read_lines [] builder = builder
with_read_lines (line ∷ lines) builder = with_read_lines lines (with_words (words_of line) builder)

-- the object of a text with this first line, where the bytes are the text of one: what their lines say is put together, and has to
-- have this very text
unfoldable pub object_of : List ℕ → List ℕ → Option Object
object_of head bytes =
    let object = object_in (with_read_lines (lines_of bytes) empty_builder) in
    if is_well_formed object && bytes_eq (object_text head object) bytes then Some object else None

-- the names that an object's text defines
unfoldable pub symbol_names : List ℕ → Option (List (List ℕ))
symbol_names bytes = do
  object ← object_of object_head bytes
  Some (names_of object.symbols)
