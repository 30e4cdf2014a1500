-- What a linked program promises.
use Rattle.std.specs.Prelude.{◌≡◌, ℕ, List, [], codes, true}
use Rattle.std.specs.List.{AllByRecursion}
use Rattle.tool_bin.specs.declared.instruction.Instruction.{Instruction}
use Rattle.tool_bin.specs.declared.instruction.Instruction.TheVariants.{Push, Add, Subtract, Multiply, Print, Call, Return}
use Rattle.tool_bin.specs.declared.object.Symbol.{Symbol}
use Rattle.text_lines.specs.Among.{is_among}
use Rattle.tool_bin.specs.Object.{are_new, names_of}

-- what an instruction calls is among some names
abbrev pub IsResolved : List (List ℕ) → Instruction → Type 0
IsResolved names (Call name) = is_among names name ≡ true
IsResolved names (Push n) = Unit {0}
IsResolved names Add = Unit {0}
IsResolved names Subtract = Unit {0}
IsResolved names Multiply = Unit {0}
IsResolved names Print = Unit {0}
IsResolved names Return = Unit {0}

-- what some symbols call is among some names
abbrev pub AreResolved : List (List ℕ) → List Symbol → Type 0
AreResolved names symbols = AllByRecursion (λ symbol. AllByRecursion (IsResolved names) symbol.code) symbols

-- no two symbols have one name, and `main` and all that is called are defined
pub record IsComplete (symbols : List Symbol) : Type 0 where
  pub once : are_new [] (names_of symbols) ≡ true
  pub main : is_among (names_of symbols) (codes "main") ≡ true
  pub calls : AreResolved (names_of symbols) symbols
