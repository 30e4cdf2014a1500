-- What the steps of an evaluation do, by their answers.
use Rattle.std.specs.Prelude.{◌≡◌, ◌≤◌, ℕ, suc, List, length, nat_lt, Result, Ok, Err, IfErr}
use Rattle.object_name.specs.Causes.{Rose, RoseBy}
use Rattle.object_name.specs.Name.{ObjectName}
use Rattle.thunk_codec.specs.Thunk.{Parts}
use Rattle.blob_store.specs.Store.{Store, Write}
use Rattle.blob_store.specs.Keeping.{Kept, HaveOneName}
use Rattle.object_name.specs.Causes.{TriesAtMost}
use Rattle.blob_store.specs.declared.storing.StoreFault.{StoreFault}
use Rattle.blob_store.specs.declared.storing.StoreFault.TheVariants as stores
use Rattle.need_eval.specs.declared.fault.Refusal.TheVariants.{NoOutput}
use Rattle.need_eval.specs.declared.fault.EvalFault.{EvalFault}
use Rattle.need_eval.specs.declared.fault.EvalFault.TheVariants as faults
use Rattle.need_eval.specs.Eval.{State, Stop, Refused, Ended, Got, Stopped, Eval, ◌>>◌, give, check}
use Rattle.need_eval.specs.Evaluation.{count_step}

-- the store and the writes of a state
abbrev pub kept_in : State → Kept
kept_in s = record { store = s.store; writes = s.writes }

-- the evaluation stops so, and has written nothing
pub record StopsUnwritten {A : Type 0} (why : Stop) (e : Ended A) (at : Kept) : Type 0 where
  pub last : State
  pub stopped : e ≡ Stopped why last
  pub store : at.store ≡ last.store
  pub list : at.writes ≡ last.writes

-- an evaluation that writes nothing stops so, or the keeper failed or memory was refused on the way
abbrev pub StopsReading : {A : Type 0} → Ended A → Kept → EvalFault → Type 0
StopsReading e at (faults.Refused refusal) = StopsUnwritten (Refused refusal) e at
StopsReading e at (faults.Clash name found fresh) = ⊥
StopsReading e at faults.StoreFailed = Unit {0}
StopsReading e at faults.RunFailed = ⊥
StopsReading e at faults.Memory = Unit {0}

-- what a call that only reads did: the evaluation gives what belongs to the answer, in this state, or has stopped
abbrev pub Reads : {A B : Type 0} → (B → A) → Ended A → State → Result B EvalFault → Type 0
Reads given e after (Ok x) = e ≡ Got (given x) after
Reads given e after (Err fault) = StopsReading e (kept_in after) fault

-- what a fault of a call that writes and runs no job shows, whatever is told
abbrev pub KeeperCause : ℕ → ℕ → ℕ → EvalFault → Type 0
KeeperCause retries before after (faults.Refused refusal) = Unit {0}
KeeperCause retries before after (faults.Clash name found fresh) = HaveOneName name found fresh
KeeperCause retries before after faults.StoreFailed = RoseBy retries before after
KeeperCause retries before after faults.RunFailed = ⊥
KeeperCause retries before after faults.Memory = Unit {0}

-- what a fault of a call that only reads shows, whatever is told: it meets no clash, and runs no job
abbrev pub ReadCause : ℕ → ℕ → ℕ → EvalFault → Type 0
ReadCause retries before after (faults.Refused refusal) = Unit {0}
ReadCause retries before after (faults.Clash name found fresh) = ⊥
ReadCause retries before after faults.StoreFailed = RoseBy retries before after
ReadCause retries before after faults.RunFailed = ⊥
ReadCause retries before after faults.Memory = Unit {0}

-- what a fault of a run shows
abbrev pub RunCause : ℕ → ℕ → EvalFault → Type 0
RunCause before after (faults.Refused refusal) = ⊥
RunCause before after (faults.Clash name found fresh) = ⊥
RunCause before after faults.StoreFailed = ⊥
RunCause before after faults.RunFailed = Rose before after
RunCause before after faults.Memory = Unit {0}

-- the count of a keeper's faults has not fallen, and what a fault shows holds
pub record HasKeeperCause {A : Type 0} (retries before after : ℕ) (result : Result A EvalFault) : Type 0 where
  pub later : before ≤ after
  pub cause : IfErr result (KeeperCause retries before after)

-- how many failures of the keeper a fault, or an answer, is
abbrev pub failures_of : EvalFault → ℕ
failures_of (faults.Refused refusal) = 0
failures_of (faults.Clash name found fresh) = 0
failures_of faults.StoreFailed = 1
failures_of faults.RunFailed = 0
failures_of faults.Memory = 0

abbrev pub keeper_failures : {A : Type 0} → Result A EvalFault → ℕ
keeper_failures (Ok x) = 0
keeper_failures (Err fault) = failures_of fault

-- a call only reads: where the keeper tells what it has, it has it as before
pub record OnlyReads {K A : Type 0} (tells : Type 0) (store : K → Store) (writes : K → List Write) (faults calls : K → ℕ) (old now : K) (retries : ℕ) (result : Result A EvalFault) : Type 0 where
  pub same : tells → store now ≡ store old
  pub list : tells → writes now ≡ writes old
  pub later : faults old ≤ faults now
  pub cause : IfErr result (ReadCause retries (faults old) (faults now))
  pub tries : tells → TriesAtMost retries calls faults old now (keeper_failures result)

-- why an object was not stored, as a fault of an evaluation
abbrev pub fault_of_store : StoreFault → EvalFault
fault_of_store (stores.Clash name found fresh) = faults.Clash name found fresh
fault_of_store stores.Failed = faults.StoreFailed
fault_of_store stores.Memory = faults.Memory

-- the state after one step more
abbrev pub stepped : State → State
stepped s = record s { steps = suc s.steps }

-- the entry into a thunk that was read
abbrev pub entry : ℕ → ObjectName → ℕ → Parts → Eval Parts
entry budget name index t = do
  check (nat_lt index (length t.outputs)) (Refused (NoOutput name index))
  count_step budget name
  give t
