-- What code that may stop gives, against what is tried.
use Rattle.std.specs.Prelude.{◌≡◌, ◌<◌, List, ℕ, length, Result, Ok, Err}
use Rattle.object_name.specs.Name.{max_size}
use Rattle.tool_text.specs.declared.failure.Failure.{Failure}
use Rattle.tool_text.specs.declared.failure.Failure.TheVariants.{OutputTooLong}
use Rattle.tool_text.specs.declared.cpp_fault.CppFault.{CppFault}
use Rattle.tool_text.specs.declared.cpp_fault.CppFault.TheVariants.{Failed, Memory}

-- code stops for a failure only where what is tried fails so
abbrev pub Stops : {Y : Type 0} → CppFault → Result Y Failure → Type 0
Stops (Failed failure) tried = tried ≡ Err failure
Stops Memory tried = Unit {0}

-- what a function gave, seen by view, is what is tried, unless memory was refused
abbrev pub Tries : {X Y : Type 0} → (X → Y) → Result X CppFault → Result Y Failure → Type 0
Tries view (Ok x) tried = tried ≡ Ok (view x)
Tries view (Err fault) tried = Stops fault tried

-- code stops for a failure only where the whole is over the size of an object
abbrev pub StopsAbove : List ℕ → CppFault → Type 0
StopsAbove whole (Failed failure) = (failure ≡ OutputTooLong) × (max_size < length whole)
StopsAbove whole Memory = Unit {0}
