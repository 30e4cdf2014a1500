-- What the steps of an evaluation that write do, by their answers: words of the contracts of private functions.
use Rattle.std.specs.Prelude.{◌≡◌, List, ◌++◌, Result, Ok, Err}
use Rattle.blob_store.specs.Keeping.{Kept}
use Rattle.blob_store.specs.Store.{Write, written}
use Rattle.need_eval.specs.declared.fault.EvalFault.{EvalFault}
use Rattle.need_eval.specs.Eval.{State, Got, Eval}
use Rattle.need_eval.specs.WritePrefix.{IsAt, Stops}

-- the state after some writes more
abbrev pub after_writes : State → List Write → State
after_writes s made = record s { store = written s.store made; writes = s.writes ++ made }

-- an evaluation gives this from each state with this store, and does no more than these writes, each of which is put once
pub record Puts {A : Type 0} (m : Eval A) (x : A) (old now : Kept) : Type 0 where
  pub made : List Write
  pub put : now.store ≡ written old.store made
  pub list : now.writes ≡ old.writes ++ made
  pub does : (s : State) → s.store ≡ old.store → m s ≡ Got x (after_writes s made)

-- what a call that writes did, by its answer
abbrev pub PutsAs : {A : Type 0} → Eval A → Kept → Kept → Result A EvalFault → Type 0
PutsAs m old now (Ok x) = Puts m x old now
PutsAs m old now (Err fault) = (first : List Write) (s : State) → IsAt first s old → Stops first s (m s) now fault
