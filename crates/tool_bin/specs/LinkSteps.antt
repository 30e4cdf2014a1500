-- Steps of a link, one after another, each of which may fail.
use Rattle.std.specs.Prelude.{ℕ, Result, Ok, Err}
use Rattle.tool_bin.specs.declared.program.Program.{Program}
use Rattle.tool_bin.specs.declared.link_fault.LinkFault.{LinkFault}
use Rattle.tool_bin.specs.declared.link_fault.LinkFault.TheVariants.{BadForm, BadArchive, DuplicateSymbol, UndefinedSymbol, NotAnObject}

-- what a step gives
abbrev pub Linked : Type 0
Linked = Result Program LinkFault

-- the second step, where the first didn't fail
infixl 10 ◌>>=◌
abbrev pub ◌>>=◌ : Linked → (Program → Linked) → Linked
(Ok program) >>= step = step program
(Err fault) >>= step = Err fault

-- the status of a fault
abbrev pub fault_status : LinkFault → ℕ
fault_status BadForm = 64
fault_status BadArchive = 83
fault_status DuplicateSymbol = 84
fault_status UndefinedSymbol = 85
fault_status NotAnObject = 86
