-- What code that reads answers, against what is read.
use Rattle.std.specs.Prelude.{◌≡◌, Bool, if◌then◌else◌, Option, Some, None, Result, Ok, Err}
use Rattle.job_wire.specs.declared.fault.ReadFault.{ReadFault}
use Rattle.job_wire.specs.declared.fault.ReadFault.TheVariants.{Bad, Memory}

-- a refusal of the bytes comes only where nothing is read
abbrev pub Refuses : {Y : Type 0} → ReadFault → Option Y → Type 0
Refuses Bad read = read ≡ None
Refuses Memory read = Unit {0}

-- an answer, seen by `view`, is what is read, unless memory was refused
abbrev pub Gives : {X Y : Type 0} → (X → Y) → Result X ReadFault → Option Y → Type 0
Gives view (Ok x) read = read ≡ Some (view x)
Gives view (Err fault) read = Refuses fault read

-- the value, where the test holds
abbrev pub only_if : {Y : Type 0} → Bool → Y → Option Y
only_if test x = if test then Some x else None
