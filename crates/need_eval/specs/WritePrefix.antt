-- What a call that evaluates has done: all that the definition says, or a prefix of its writes.
use Rattle.std.specs.Prelude.{◌≡◌, ◌⊎◌, ℕ, List, ◌++◌, ◌∷◌, [], Result, Ok, Err}
use Rattle.std.specs.List.{AllZip}
use Rattle.object_name.specs.Name.{ObjectName}
use Rattle.object_name.specs.Causes.{Rose, RoseBy}
use Rattle.object_name.specs.Made.{ListsMade}
use Rattle.thunk_codec.specs.declared.job.Job.{Job}
use Rattle.thunk_codec.specs.declared.job.Outcome.{Outcome}
use Rattle.thunk_codec.specs.Outcome.{Fits}
use Rattle.blob_store.specs.Store.{Store, Write, written}
use Rattle.blob_store.specs.Keeping.{Kept, HaveOneName}
use Rattle.need_eval.specs.declared.fault.EvalFault.{EvalFault}
use Rattle.need_eval.specs.declared.fault.EvalFault.TheVariants as faults
use Rattle.need_eval.specs.declared.evaluating.Values.{Values}
use Rattle.need_eval.specs.Eval.{State, Stop, Refused, Clash, Ended, Got, Stopped}

-- the state in which an evaluation ended
abbrev pub state_after : {A : Type 0} → Ended A → State
state_after (Got x s) = s
state_after (Stopped why s) = s

-- the store has a prefix of the writes that the evaluation makes from this state on
pub record IsWritePrefix {A : Type 0} (s : State) (e : Ended A) (now : Store) : Type 0 where
  pub prefix : List Write
  pub others : List Write
  pub list : (state_after e).writes ≡ s.writes ++ (prefix ++ others)
  pub kept : now ≡ written s.store prefix

-- the evaluation stops so, and the store is as it leaves it
pub record StopsWith {A : Type 0} (why : Stop) (e : Ended A) (now : Store) : Type 0 where
  pub last : State
  pub stopped : e ≡ Stopped why last
  pub store : now ≡ last.store

-- the store has a prefix of the writes, and the puts that were answered Ok are this prefix; those before the evaluation began
-- stand first
pub record StopsPartWay {A : Type 0} (before : List Write) (s : State) (e : Ended A) (now : Kept) : Type 0 where
  pub part : IsWritePrefix s e now.store
  pub listed : ListsMade (before ++ s.writes) part.prefix now.writes

-- the puts that were answered Ok are all writes of the evaluation, once each and in order, after those before it began
abbrev pub ListsAll : {A : Type 0} → List Write → Ended A → Kept → Type 0
ListsAll before e now = now.writes ≡ before ++ (state_after e).writes

-- a keeper has the store of a state, and after the puts before the evaluation began those that the state has as its writes
pub record IsAt (before : List Write) (s : State) (now : Kept) : Type 0 where
  pub store : s.store ≡ now.store
  pub list : now.writes ≡ before ++ s.writes

-- what was done up to a fault
abbrev pub Stops : {A : Type 0} → List Write → State → Ended A → Kept → EvalFault → Type 0
Stops before s e now (faults.Refused refusal) = StopsWith (Refused refusal) e now.store × ListsAll before e now
Stops before s e now (faults.Clash name found fresh) = StopsWith (Clash name found fresh) e now.store × ListsAll before e now
Stops before s e now faults.StoreFailed = StopsPartWay before s e now
Stops before s e now faults.RunFailed = StopsPartWay before s e now
Stops before s e now faults.Memory = StopsPartWay before s e now

-- the evaluation gives this, and the store is as it leaves it
pub record Yields {A : Type 0} (x : A) (steps : ℕ) (e : Ended A) (now : Store) : Type 0 where
  pub last : State
  pub got : e ≡ Got x last
  pub steps_used : steps ≡ last.steps
  pub store : now ≡ last.store

-- what a call that evaluates did, by its answer
abbrev pub Does : List Write → State → Ended (List ObjectName) → Kept → Result Values EvalFault → Type 0
Does before s e now (Ok values) = Yields values.names values.steps e now.store × ListsAll before e now
Does before s e now (Err fault) = Stops before s e now fault

-- each outcome fits its job, and is the function's where that is told
abbrev pub AreAnswers : (Job → Type 0) → (Job → Outcome) → List Job → List Outcome → Type 0
AreAnswers tells outcome jobs given = AllZip (λ job o. Fits job o × (tells job → o ≡ outcome job)) jobs given

-- faults come only where a count rose: the keeper's by more than the retries, or the runner's
abbrev pub EvalCause : ℕ → ℕ → ℕ → ℕ → ℕ → Result Values EvalFault → Type 0
EvalCause retries kept_before kept_after run_before run_after (Ok values) = Unit {0}
EvalCause retries kept_before kept_after run_before run_after (Err (faults.Refused refusal)) = Unit {0}
EvalCause retries kept_before kept_after run_before run_after (Err (faults.Clash name found fresh)) = Unit {0}
EvalCause retries kept_before kept_after run_before run_after (Err faults.StoreFailed) = RoseBy retries kept_before kept_after
EvalCause retries kept_before kept_after run_before run_after (Err faults.RunFailed) = Rose run_before run_after
EvalCause retries kept_before kept_after run_before run_after (Err faults.Memory) = Unit {0}

-- a clash shows two byte strings that differ and have one name
abbrev pub ClashShows : Result Values EvalFault → Type 0
ClashShows (Ok values) = Unit {0}
ClashShows (Err (faults.Refused refusal)) = Unit {0}
ClashShows (Err (faults.Clash name found fresh)) = HaveOneName name found fresh
ClashShows (Err faults.StoreFailed) = Unit {0}
ClashShows (Err faults.RunFailed) = Unit {0}
ClashShows (Err faults.Memory) = Unit {0}
