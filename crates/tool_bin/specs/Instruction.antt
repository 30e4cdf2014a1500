-- Instructions of the stack machine, and their lines.
use Rattle.std.specs.Prelude.{ℕ, List, [], ◌∷◌, ◌++◌, Option, Some, None, bytes_eq, codes, decimal, if◌then◌else◌}
use Rattle.object_name.specs.Number.{number_of}
use Rattle.text_lines.specs.Maybe.{◌>>=◌, ◌>>◌, check}
use Rattle.thunk_codec.specs.Thunk.{is_identifier}
use Rattle.tool_bin.specs.declared.instruction.Instruction.{Instruction}
use Rattle.tool_bin.specs.declared.instruction.Instruction.TheVariants.{Push, Add, Subtract, Multiply, Print, Call, Return}

-- what the line of an instruction says
abbrev pub instruction_text : Instruction → List ℕ
instruction_text (Push n) = codes "push " ++ decimal n
instruction_text Add = codes "add"
instruction_text Subtract = codes "sub"
instruction_text Multiply = codes "mul"
instruction_text Print = codes "print"
instruction_text (Call name) = codes "call " ++ name
instruction_text Return = codes "ret"

-- the instruction of one word
unfoldable pub plain_of : List ℕ → Option Instruction
plain_of word =
    if bytes_eq word (codes "add") then Some Add
    else if bytes_eq word (codes "sub") then Some Subtract
    else if bytes_eq word (codes "mul") then Some Multiply
    else if bytes_eq word (codes "print") then Some Print
    else if bytes_eq word (codes "ret") then Some Return
    else None

-- pushing a canonical decimal number below 2 ^ 64
abbrev pub push_of : List ℕ → Option Instruction
push_of operand = do
  n ← number_of operand
  Some (Push n)

-- calling an identifier
abbrev pub call_of : List ℕ → Option Instruction
call_of operand = do
  check (is_identifier operand)
  Some (Call operand)

-- the instruction of two words
unfoldable pub operated_of : List ℕ → List ℕ → Option Instruction
operated_of word operand =
    if bytes_eq word (codes "push") then push_of operand
    else if bytes_eq word (codes "call") then call_of operand
    else None

-- the instruction whose words these are, if there is one
abbrev pub instruction_of : List (List ℕ) → Option Instruction
instruction_of [] = None
instruction_of (word ∷ []) = plain_of word
instruction_of (word ∷ operand ∷ []) = operated_of word operand
instruction_of (word ∷ operand ∷ other ∷ others) = None
