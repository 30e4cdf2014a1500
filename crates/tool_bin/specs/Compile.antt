-- The card `cc1`: functions written as words, made into lines for the assembler.
use Rattle.std.specs.Prelude.{ℕ, ◌+◌, List, [], ◌∷◌, ◌++◌, map, fold, not, nat_eq, ◌&&◌, ◌||◌, Bool, false, Option, Some, None, bytes_eq, codes, decimal, if◌then◌else◌}
use Rattle.std.specs.List.{flat_map, starts_with}
use Rattle.std.specs.Option.{option_or}
use Rattle.text_lines.specs.Lines.{lines_of}
use Rattle.text_lines.specs.Blanks.{words_of}
use Rattle.thunk_codec.specs.declared.job.Job.{Job}
use Rattle.thunk_codec.specs.declared.job.Outcome.{Outcome}
use Rattle.text_lines.specs.Maybe.{◌>>=◌, ◌>>◌, check}
use Rattle.thunk_codec.specs.Thunk.{is_identifier}
use Rattle.tool_bin.specs.declared.function_definition.FunctionDefinition.{FunctionDefinition}
use Rattle.tool_bin.specs.declared.instruction.Instruction.{Instruction}
use Rattle.tool_bin.specs.declared.instruction.Instruction.TheVariants.{Add, Subtract, Multiply, Print, Call}
use Rattle.tool_bin.specs.Instruction.{instruction_text, push_of}
use Rattle.tool_bin.specs.Object.{line, are_new}
use Rattle.tool_bin.specs.OneOutput.{source_of, made_outcome}

-- whether a text is an identifier but for `fn` and `print`
unfoldable pub is_function_name : List ℕ → Bool
is_function_name name = is_identifier name && not (bytes_eq name (codes "fn") || bytes_eq name (codes "print"))

-- an operator, or `print`
unfoldable pub operator_of : List ℕ → Option Instruction
operator_of word =
    if bytes_eq word (codes "+") then Some Add
    else if bytes_eq word (codes "-") then Some Subtract
    else if bytes_eq word (codes "*") then Some Multiply
    else if bytes_eq word (codes "print") then Some Print
    else None

-- a call of a function
abbrev pub function_call_of : List ℕ → Option Instruction
function_call_of word = do
  check (is_function_name word)
  Some (Call word)

-- what a word of a function does: a number, an operator or a call
abbrev pub instruction_of_word : List ℕ → Option Instruction
instruction_of_word word = option_or (push_of word) (option_or (operator_of word) (function_call_of word))

-- what some words do, after the instructions so far
abbrev pub code_with : List Instruction → List (List ℕ) → Option (List Instruction)
code_with code [] = Some code
code_with code (word ∷ words) = do
  instruction ← instruction_of_word word
  code_with (code ++ instruction ∷ []) words

-- the name and the words of a line `fn NAME :` and words
abbrev pub head_of : List (List ℕ) → Option (List ℕ × List (List ℕ))
head_of (kind ∷ name ∷ colon ∷ words) = do
  check (bytes_eq kind (codes "fn"))
  check (is_function_name name)
  check (bytes_eq colon (codes ":"))
  Some (name, words)
head_of words = None

-- the function that the line of this number defines
abbrev pub definition_of : ℕ → List (List ℕ) → Option FunctionDefinition
definition_of number line = do
  head ← head_of line
  code ← code_with [] head.1
  Some (record { name = head.0; number = number; code = code })

-- with one more line; a line of blanks says nothing
abbrev pub with_definition : ℕ → List FunctionDefinition → List (List ℕ) → Option (List FunctionDefinition)
with_definition number made [] = Some made
with_definition number made (word ∷ words) = do
  definition ← definition_of number (word ∷ words)
  Some (made ++ definition ∷ [])

-- the definitions of some lines, the first of which has this number, after those so far
abbrev pub definitions_with : ℕ → List FunctionDefinition → List (List ℕ) → Option (List FunctionDefinition)
definitions_with number made [] = Some made
definitions_with number made (line ∷ lines) = do
  more ← with_definition number made (words_of line)
  definitions_with (number + 1) more lines

-- `.loc K`, where debugging is on
abbrev pub location_text : Bool → ℕ → List ℕ
location_text debugging number = if debugging then line (codes ".loc " ++ decimal number) else []

-- the lines of a definition: its label, its location, its code and the return
abbrev pub definition_text : Bool → FunctionDefinition → List ℕ
definition_text debugging definition = line (definition.name ++ codes ":")
    ++ (location_text debugging definition.number
    ++ (flat_map (λ instruction. line (instruction_text instruction)) definition.code ++ line (codes "ret")))

-- the lines for the assembler that a source is made into: no two functions have one name
unfoldable pub compiled : Bool → List ℕ → Option (List ℕ)
compiled debugging source = do
  definitions ← definitions_with 1 [] (lines_of source)
  check (are_new [] (map (λ definition. definition.name) definitions))
  Some (flat_map (definition_text debugging) definitions)

-- whether debugging is on after one more argument: those that begin with `-g` turn it on, and `-g0` off
abbrev pub debugging_with : Bool → List ℕ → Bool
debugging_with debugging arg =
    if starts_with nat_eq arg (codes "-g") then not (bytes_eq arg (codes "-g0")) else debugging

-- whether debugging is on
abbrev pub is_debugging : List (List ℕ) → Bool
is_debugging args = fold debugging_with false args

-- any arguments, one input and one output, else status 64; status 81 for a bad line
abbrev pub cc1_outcome : Job → Outcome
cc1_outcome job = made_outcome 81 (compiled (is_debugging job.args)) (source_of job)
