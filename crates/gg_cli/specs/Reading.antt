-- What reading words answers, against the definition.
use Rattle.std.specs.Prelude.{◌≡◌, Option, Some, None, Result, Ok, Err}
use Rattle.gg_cli.specs.declared.word_fault.WordFault.{WordFault}
use Rattle.gg_cli.specs.declared.word_fault.WordFault.TheVariants.{Usage, Memory}

-- a refusal of the words comes only where the definition finds nothing
abbrev pub Refuses : {T : Type 0} → WordFault → Option T → Type 0
Refuses Usage wanted = wanted ≡ None
Refuses Memory wanted = Unit {0}

-- what was read is what the definition finds, unless memory was refused
abbrev pub Finds : {T : Type 0} → Result T WordFault → Option T → Type 0
Finds (Ok found) wanted = wanted ≡ Some found
Finds (Err fault) wanted = Refuses fault wanted
