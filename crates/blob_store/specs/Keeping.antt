-- What a call on a keeper, and storing an object, does to the store that the keeper tells and to the list of its puts.
use Rattle.std.specs.Prelude.{◌≡◌, ◌⊎◌, ◌++◌, ℕ, List, Some, None, Result, Ok, Err}
use Rattle.object_name.specs.Name.{ObjectName, name_of}
use Rattle.object_name.specs.Causes.{RoseBy}
use Rattle.object_name.specs.Made.{ListsMade}
use Rattle.object_name.specs.Streams.{IsPrefix}
use Rattle.object_name.specs.declared.trouble.Trouble.{Trouble}
use Rattle.blob_store.specs.declared.storing.StoreFault.{StoreFault}
use Rattle.blob_store.specs.declared.storing.StoreFault.TheVariants.{Clash, Failed, Memory}
use Rattle.blob_store.specs.Store.{Store, Write, written, after_write, held, other_held, own_write, storing}

-- what a keeper tells: its store, and the puts that were answered Ok, the first of them first
pub record Kept : Type 0 where
  pub store : Store
  pub writes : List Write

-- what this keeper tells
abbrev pub kept : {K : Type 0} → (K → Store) → (K → List Write) → K → Kept
kept store writes keeper = record { store = store keeper; writes = writes keeper }

-- after these writes, each of which was answered Ok, once and in order
abbrev pub all_written : Kept → List Write → Kept
all_written before writes = record { store = written before.store writes; writes = before.writes ++ writes }

-- a prefix of these writes was made, each once and in order: the last of them may have failed
pub record WritesPrefix (writes : List Write) (before after : Kept) : Type 0 where
  pub prefix : List Write
  pub is_prefix : IsPrefix prefix writes
  pub store : after.store ≡ written before.store prefix
  pub listed : ListsMade before.writes prefix after.writes

-- a write that failed was made or was not
abbrev pub MayWrite : Store → Write → Store → Type 0
MayWrite old write new = (new ≡ old) ⊎ (new ≡ after_write old write)

-- storing that failed has changed nothing, or has made its write where nothing of that name was held
pub record HasStored (old : Store) (bytes : List ℕ) (new : Store) : Type 0 where
  pub free : held old.objects (name_of bytes) ≡ None
  pub made : new ≡ after_write old (own_write bytes)

abbrev pub MayStore : Store → List ℕ → Store → Type 0
MayStore old bytes new = (new ≡ old) ⊎ HasStored old bytes new

-- storing has made what was to be written, and no other bytes were held under that name
pub record Stores (old : Store) (bytes : List ℕ) (new : Store) : Type 0 where
  pub no_other : other_held old bytes ≡ None
  pub made : new ≡ written old (storing old bytes)

-- other bytes are held under that name, and nothing has changed
pub record Clashes (old : Store) (bytes : List ℕ) (new : Store) (found : List ℕ) : Type 0 where
  pub other : other_held old bytes ≡ Some found
  pub same : new ≡ old

-- what storing some bytes does, by its answer
abbrev pub StoresAs : Store → List ℕ → Store → Result ObjectName StoreFault → Type 0
StoresAs old bytes new (Ok name) = Stores old bytes new
StoresAs old bytes new (Err (Clash name found fresh)) = Clashes old bytes new found
StoresAs old bytes new (Err Failed) = MayStore old bytes new
StoresAs old bytes new (Err Memory) = MayStore old bytes new

-- the puts that storing some bytes adds to the list, by its answer: what was to be written, each write once, or none
abbrev pub ListsStored : Store → List ℕ → List Write → List Write → Result ObjectName StoreFault → Type 0
ListsStored old bytes before after (Ok name) = after ≡ before ++ storing old bytes
ListsStored old bytes before after (Err (Clash name found fresh)) = after ≡ before
ListsStored old bytes before after (Err Failed) = after ≡ before
ListsStored old bytes before after (Err Memory) = after ≡ before

-- two byte strings that differ have this name
pub record HaveOneName (name : ObjectName) (found fresh : List ℕ) : Type 0 where
  pub first : name_of found ≡ name
  pub second : name_of fresh ≡ name
  pub differ : found ≡ fresh → ⊥

-- a clash shows two byte strings of one name, of which the second was to be stored
abbrev pub ShowsClash : List ℕ → Result ObjectName StoreFault → Type 0
ShowsClash bytes (Ok name) = Unit {0}
ShowsClash bytes (Err (Clash name found fresh)) = (fresh ≡ bytes) × HaveOneName name found fresh
ShowsClash bytes (Err Failed) = Unit {0}
ShowsClash bytes (Err Memory) = Unit {0}

-- storing fails only where the keeper's count rose by more than the retries
abbrev pub StoreCause : ℕ → ℕ → ℕ → Result ObjectName StoreFault → Type 0
StoreCause retries before after (Ok name) = Unit {0}
StoreCause retries before after (Err (Clash name found fresh)) = Unit {0}
StoreCause retries before after (Err Failed) = RoseBy retries before after
StoreCause retries before after (Err Memory) = Unit {0}

-- what storing answers where a call of the keeper is in trouble
abbrev pub fault_of : Trouble → StoreFault
fault_of Trouble.Failed = Failed
fault_of Trouble.Memory = Memory

-- how many failures of the keeper the answer of storing is
abbrev pub store_failures : {T : Type 0} → Result T StoreFault → ℕ
store_failures (Ok name) = 0
store_failures (Err (Clash name found fresh)) = 0
store_failures (Err Failed) = 1
store_failures (Err Memory) = 0
