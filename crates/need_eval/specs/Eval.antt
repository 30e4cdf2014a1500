-- Evaluations: they read and change a state, and give something or stop.
use Rattle.std.specs.Prelude.{ℕ, suc, List, [], ◌∷◌, ◌++◌, Bool, true, false, Option, Some, None, if◌then◌else◌}
use Rattle.std.specs.Ordering.{eq_by_cmp}
use Rattle.object_name.specs.Name.{ObjectName, name_cmp}
use Rattle.thunk_codec.specs.declared.job.Job.{Job}
use Rattle.blob_store.specs.Store.{Store, Write, after_write}
use Rattle.need_eval.specs.declared.fault.Refusal.{Refusal}

-- the store, the outputs of the thunks reduced so far, the steps used, the writes made, in order, and the jobs whose outcome was
-- asked for, in order
pub record State : Type 0 where
  pub store : Store
  pub reduced : ObjectName → Option (List ObjectName)
  pub steps : ℕ
  pub writes : List Write
  pub asked : List Job

-- the state at the start
abbrev pub start : Store → State
start store = record { store = store; reduced = λ name. None; steps = 0; writes = []; asked = [] }

-- why an evaluation stops: what was wanted is refused; two objects have one name; or no outcome of this job is there yet, and
-- this is the resolved text of its thunk
pub data Stop : Type 0 where
  Refused : Refusal → Stop
  Clash : ObjectName → List ℕ → List ℕ → Stop
  Stands : List ℕ → Job → Stop

-- an evaluation gave something, or stopped; and the state then
pub data Ended (A : Type 0) : Type 0 where
  Got : A → State → Ended A
  Stopped : Stop → State → Ended A

-- an evaluation that gives something of this type, if it doesn't stop
abbrev pub Eval : Type 0 → Type 0
Eval A = State → Ended A

-- what follows, where something was given
abbrev pub go_on : {A B : Type 0} → Ended A → (A → Eval B) → Ended B
go_on (Got x s) f = f x s
go_on (Stopped why s) f = Stopped why s

-- one evaluation after another, which goes on with what the first gave
infixl 10 ◌>>=◌
abbrev pub ◌>>=◌ : {A B : Type 0} → Eval A → (A → Eval B) → Eval B
m >>= f = λ s. go_on (m s) f

-- one evaluation after another, whatever the first gave
infixl 10 ◌>>◌
abbrev pub ◌>>◌ : {A B : Type 0} → Eval A → Eval B → Eval B
m >> n = m >>= λ _. n

-- gives this, and changes nothing
abbrev pub give : {A : Type 0} → A → Eval A
give x = λ s. Got x s

-- stops so
abbrev pub stop : {A : Type 0} → Stop → Eval A
stop why = λ s. Stopped why s

-- the state as it is
abbrev pub current : Eval State
current = λ s. Got s s

-- stops, unless the test holds
abbrev pub check : Bool → Stop → Eval (Unit {0})
check true why = give tt
check false why = stop why

-- stops, unless there is something
abbrev pub need : {A : Type 0} → Option A → Stop → Eval A
need (Some x) why = give x
need None why = stop why

-- each in order
abbrev pub each : {A B : Type 0} → (A → Eval B) → List A → Eval (List B)
each f [] = give []
each f (x ∷ xs) = do
  y ← f x
  ys ← each f xs
  give (y ∷ ys)

-- one step more
abbrev pub step : Eval (Unit {0})
step = λ s. Got tt (record s { steps = suc s.steps })

-- one write more
abbrev pub make_write : Write → Eval (Unit {0})
make_write write = λ s. Got tt (record s { store = after_write s.store write; writes = s.writes ++ write ∷ [] })

-- one job more whose outcome was asked for
abbrev pub note_asked : Job → Eval (Unit {0})
note_asked job = λ s. Got tt (record s { asked = s.asked ++ job ∷ [] })

-- one thunk more is reduced, and these are its outputs
abbrev pub mark : ObjectName → List ObjectName → Eval (Unit {0})
mark name outputs = λ s. Got tt (record s { reduced = λ other. if eq_by_cmp name_cmp name other then Some outputs else s.reduced other })
