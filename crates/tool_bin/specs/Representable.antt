-- What an object's text can say: names that are identifiers, and numbers below 2 ^ 64.
use Rattle.std.specs.Prelude.{◌≡◌, ◌<◌, ◌^◌, length, true}
use Rattle.std.specs.List.{AllByRecursion}
use Rattle.thunk_codec.specs.Thunk.{is_identifier}
use Rattle.tool_bin.specs.declared.instruction.Instruction.{Instruction}
use Rattle.tool_bin.specs.declared.instruction.Instruction.TheVariants.{Push, Add, Subtract, Multiply, Print, Call, Return}
use Rattle.tool_bin.specs.declared.object.DebugLine.{DebugLine}
use Rattle.tool_bin.specs.declared.object.Object.{Object}
use Rattle.tool_bin.specs.declared.object.Symbol.{Symbol}

-- an instruction
abbrev pub IsRepresentable : Instruction → Type 0
IsRepresentable (Push n) = n < 2 ^ 64
IsRepresentable (Call name) = is_identifier name ≡ true
IsRepresentable Add = Unit {0}
IsRepresentable Subtract = Unit {0}
IsRepresentable Multiply = Unit {0}
IsRepresentable Print = Unit {0}
IsRepresentable Return = Unit {0}

-- a symbol: the number of its instructions is written too
pub record IsRepresentableSymbol (symbol : Symbol) : Type 0 where
  pub code : AllByRecursion IsRepresentable symbol.code
  pub count : length symbol.code < 2 ^ 64

-- a debug line
pub record IsRepresentableDebug (debug : DebugLine) : Type 0 where
  pub name : is_identifier debug.name ≡ true
  pub number : debug.number < 2 ^ 64

-- an object
pub record IsRepresentableObject (object : Object) : Type 0 where
  pub symbols : AllByRecursion IsRepresentableSymbol object.symbols
  pub debug : AllByRecursion IsRepresentableDebug object.debug
