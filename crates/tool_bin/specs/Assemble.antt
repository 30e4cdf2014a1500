-- The card `as`: labels, locations and instructions, made into an object.
use Rattle.std.specs.Prelude.{ℕ, ◌-◌, List, [], ◌∷◌, length, take, nat_eq, Option, Some, None, bytes_eq, codes}
use Rattle.std.specs.List.{ends_with}
use Rattle.std.specs.Option.{option_or}
use Rattle.object_name.specs.Number.{number_of}
use Rattle.text_lines.specs.Lines.{lines_of}
use Rattle.text_lines.specs.Blanks.{words_of}
use Rattle.thunk_codec.specs.declared.job.Job.{Job}
use Rattle.thunk_codec.specs.declared.job.Outcome.{Outcome}
use Rattle.text_lines.specs.Maybe.{◌>>=◌, ◌>>◌, check}
use Rattle.thunk_codec.specs.Thunk.{is_identifier}
use Rattle.tool_bin.specs.declared.object_builder.ObjectBuilder.{ObjectBuilder}
use Rattle.tool_bin.specs.declared.instruction.Instruction.{Instruction}
use Rattle.tool_bin.specs.declared.object.Object.{Object}
use Rattle.tool_bin.specs.declared.object.Symbol.{Symbol}
use Rattle.tool_bin.specs.declared.statement.Statement.{Statement}
use Rattle.tool_bin.specs.declared.statement.Statement.TheVariants.{Label, Location, Code}
use Rattle.tool_bin.specs.ObjectBuilder.{empty_builder, with_label, with_instruction, with_debug, object_in}
use Rattle.tool_bin.specs.Instruction.{instruction_of}
use Rattle.tool_bin.specs.Object.{object_head, object_text, is_well_formed}
use Rattle.tool_bin.specs.OneOutput.{plain_source_of, made_outcome}

-- a label of a word that is an identifier and a colon
abbrev pub labelled : List ℕ → Option Statement
labelled word = do
  check (ends_with nat_eq word (58 ∷ []))
  check (is_identifier (take (length word - 1) word))
  Some (Label (take (length word - 1) word))

-- a label, `NAME:`
abbrev pub label_of : List (List ℕ) → Option Statement
label_of (word ∷ []) = labelled word
label_of words = None

-- a location of two words: `.loc` and a canonical decimal number below 2 ^ 64
abbrev pub located : List ℕ → List ℕ → Option Statement
located word text = do
  check (bytes_eq word (codes ".loc"))
  number ← number_of text
  Some (Location number)

-- a location, `.loc N`
abbrev pub location_of : List (List ℕ) → Option Statement
location_of (word ∷ number ∷ []) = located word number
location_of words = None

-- an instruction
abbrev pub code_of : List (List ℕ) → Option Statement
code_of words = do
  instruction ← instruction_of words
  Some (Code instruction)

-- the statement of a line, by its words
abbrev pub statement_of : List (List ℕ) → Option Statement
statement_of words = option_or (label_of words) (option_or (location_of words) (code_of words))

-- with a location, which belongs to the last label; there has to be one
abbrev pub with_location : ℕ → Option Symbol → ObjectBuilder → Option ObjectBuilder
with_location number None builder = None
with_location number (Some symbol) builder = Some (with_debug symbol.name number builder)

-- with an instruction, which belongs to the last label; there has to be one
abbrev pub with_code : Instruction → Option Symbol → ObjectBuilder → Option ObjectBuilder
with_code instruction None builder = None
with_code instruction (Some symbol) builder = Some (with_instruction instruction builder)

-- with one more statement
abbrev pub with_statement : Statement → ObjectBuilder → Option ObjectBuilder
with_statement (Label name) builder = Some (with_label name builder)
with_statement (Location number) builder = with_location number builder.last builder
with_statement (Code instruction) builder = with_code instruction builder.last builder

-- with one more line; a line of blanks says nothing
abbrev pub with_line : List (List ℕ) → ObjectBuilder → Option ObjectBuilder
with_line [] builder = Some builder
with_line (word ∷ words) builder = do
  statement ← statement_of (word ∷ words)
  with_statement statement builder

-- with some more lines
abbrev pub with_lines : List (List ℕ) → ObjectBuilder → Option ObjectBuilder
with_lines [] builder = Some builder
with_lines (line ∷ lines) builder = do
  more ← with_line (words_of line) builder
  with_lines lines more

-- the object that a text is assembled into: each label has code, and no two are the same
unfoldable pub assembled : List ℕ → Option Object
assembled source = do
  builder ← with_lines (lines_of source) empty_builder
  check (is_well_formed (object_in builder))
  Some (object_in builder)

-- the text of that object
abbrev pub assembled_text : List ℕ → Option (List ℕ)
assembled_text source = do
  object ← assembled source
  Some (object_text object_head object)

-- no arguments, one input and one output, else status 64; status 82 for a bad line
abbrev pub as_outcome : Job → Outcome
as_outcome job = made_outcome 82 assembled_text (plain_source_of job)
