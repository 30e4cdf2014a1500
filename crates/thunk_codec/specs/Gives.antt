-- What code that reads gives, against what is read.
use Rattle.std.specs.Prelude.{◌≡◌, Bool, if◌then◌else◌, Option, Some, None, Result, Ok, Err}
use Rattle.thunk_codec.specs.declared.decoding.DecodeFault.{DecodeFault}
use Rattle.thunk_codec.specs.declared.decoding.DecodeFault.TheVariants.{BadThunk, Memory}

-- a refusal for the bytes comes only where nothing is read
abbrev pub Refuses : {Y : Type 0} → DecodeFault → Option Y → Type 0
Refuses BadThunk read = read ≡ None
Refuses Memory read = Unit {0}

-- what a function gave, seen by view, is what is read, unless memory was refused
abbrev pub Gives : {X Y : Type 0} → (X → Y) → Result X DecodeFault → Option Y → Type 0
Gives view (Ok x) read = read ≡ Some (view x)
Gives view (Err fault) read = Refuses fault read

-- the value, where the test holds
abbrev pub only_if : {Y : Type 0} → Bool → Y → Option Y
only_if test x = if test then Some x else None
