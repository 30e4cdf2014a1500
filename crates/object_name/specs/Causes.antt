-- Counts of faults. A count never falls, and may stand still at its last value, 2 ^ 64 - 1.
use Rattle.std.specs.Prelude.{ℕ, ◌+◌, ◌-◌, ◌*◌, ◌^◌, ◌≤◌, ◌<◌, min, Result, Ok, Err, IsErrOf}
use Rattle.object_name.specs.declared.trouble.Trouble.{Trouble}
use Rattle.object_name.specs.declared.trouble.Trouble.TheVariants.{Failed, Memory}

-- the count rose by more than n, or stands at its last value
abbrev pub RoseBy : ℕ → ℕ → ℕ → Type 0
RoseBy n before after = min (before + n + 1) (2 ^ 64 - 1) ≤ after

-- the count rose, or stands at its last value
abbrev pub Rose : ℕ → ℕ → Type 0
Rose before after = RoseBy 0 before after

-- how many faults an answer is
abbrev pub faults_of : {T : Type 0} → Result T Trouble → ℕ
faults_of (Ok value) = 0
faults_of (Err Failed) = 1
faults_of (Err Memory) = 0

-- the count has not fallen, a fault is answered only where it rose, and it rises by no more than the fault that is answered
pub record HasCause {T : Type 0} (before after : ℕ) (result : Result T Trouble) : Type 0 where
  pub later : before ≤ after
  pub failed : IsErrOf result Failed → Rose before after
  pub most : after ≤ before + faults_of result

-- the same of so many calls, each of which was tried again where it failed, n times at most: the count rises by no more than n for
-- each, beside the fault that is answered
pub record HasCauseOver {T : Type 0} (calls n before after : ℕ) (result : Result T Trouble) : Type 0 where
  pub later : before ≤ after
  pub failed : IsErrOf result Failed → RoseBy n before after
  pub most : after ≤ before + calls * n + faults_of result

-- the same of one call
abbrev pub HasCauseBy : {T : Type 0} → ℕ → ℕ → ℕ → Result T Trouble → Type 0
HasCauseBy n before after result = HasCauseOver 1 n before after result

-- of the calls made, n of each n + 1 failed at most, beside the failures that are answered: so it is where each that failed was tried
-- again n times at most; nothing is said where the count of calls stands at its last value
pub record TriesAtMost {K : Type 0} (n : ℕ) (calls faults : K → ℕ) (old now : K) (answered : ℕ) : Type 0 where
  pub later : calls now < 2 ^ 64 - 1 → calls old ≤ calls now
  pub most : calls now < 2 ^ 64 - 1 → (n + 1) * faults now + n * calls old ≤ (n + 1) * faults old + n * calls now + (n + 1) * answered
