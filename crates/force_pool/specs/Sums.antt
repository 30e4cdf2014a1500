-- What the workers say of their links together.
use Rattle.std.specs.Prelude.{◌≡◌, ◌≢◌, ◌≤◌, ◌+◌, ◌-◌, ◌++◌, ◌∷◌, [], ℕ, List, length, Bool, true, false, ◌&&◌, ◌||◌}
use Rattle.std.specs.List.{AllZip, AllByRecursion}
use Rattle.thunk_codec.specs.declared.job.Job.{Job}
use Rattle.force_pool.specs.declared.worker_end.WorkerEnd.{WorkerEnd}
use Rattle.force_pool.specs.declared.worker_end.WorkerEnd.TheVariants.{Going, GaveUp, Differs, Memory}
use Rattle.force_pool.specs.Account.{Account, is_memory, is_given_up}
use Rattle.force_pool.specs.Links.{Mark, IsLost, AreTold, CountsOn, sent_in, faults_in}

-- a worker that begins
abbrev pub fresh : Mark → ℕ → Account
fresh link retries = record { sent = link.sent; faults = link.faults; retries = retries; starts = 0; replies = 0; losses = 0; failures = 0; ended = Going }

-- what a worker says of its link
abbrev pub mark_of : Account → Mark
mark_of a = record { sent = a.sent; faults = a.faults }

-- the parts of the shares of starts, of replies and of losses
pub record Parts : Type 0 where
  pub starts : ℕ
  pub replies : ℕ
  pub losses : ℕ

-- with a part of each more
abbrev pub with_one : Parts → Parts
with_one parts = record { starts = parts.starts + 1; replies = parts.replies + 1; losses = parts.losses + 1 }

-- how the links came back, the workers' numbers together, whether memory was refused to one, whether each gave its link up, why
-- the first ended that says that two answers differ, the parts of the shares, and for how many links more there is room
pub record Sum : Type 0 where
  pub back : List Mark
  pub starts : ℕ
  pub replies : ℕ
  pub losses : ℕ
  pub memory : Bool
  pub all_lost : Bool
  pub why : WorkerEnd
  pub parts : Parts
  pub left : ℕ

-- no worker has come back
pub record IsEmpty (s : Sum) : Type 0 where
  pub back : s.back ≡ []
  pub starts : s.starts ≡ 0
  pub replies : s.replies ≡ 0
  pub losses : s.losses ≡ 0
  pub memory : s.memory ≡ false
  pub all_lost : s.all_lost ≡ true
  pub why : s.why ≡ Going

-- links that are ready for workers, and the parts of the shares
pub record Readiness : Type 0 where
  pub marks : List Mark
  pub parts : Parts

-- these parts and so many of each more
pub record HasParts (parts : Parts) (more : ℕ) (all : Parts) : Type 0 where
  pub starts : parts.starts + more ≡ all.starts
  pub replies : parts.replies + more ≡ all.replies
  pub losses : parts.losses + more ≡ all.losses

-- these links are ready, with all parts
pub record IsBegun (links : List Mark) (starts replies losses : ℕ) (ready : Readiness) : Type 0 where
  pub marks : ready.marks ≡ links
  pub parts : ready.parts ≡ record { starts = starts; replies = replies; losses = losses }

-- each of the links has got a part of each ledger, and has room to come back
pub record Begins (ready : Readiness) (s : Sum) : Type 0 where
  pub is_empty : IsEmpty s
  pub parts : HasParts s.parts (length ready.marks) ready.parts
  pub room : length ready.marks ≤ s.left

-- the first end of two that says that two answers differ
abbrev pub first_why : WorkerEnd → WorkerEnd → WorkerEnd
first_why Going other = other
first_why GaveUp other = other
first_why (Differs resolved first second) other = Differs resolved first second
first_why Memory other = other

-- with one worker more
abbrev pub taken_in : Sum → Account → Sum
taken_in s a = record {
  back = s.back ++ mark_of a ∷ [];
  starts = s.starts + a.starts;
  replies = s.replies + a.replies;
  losses = s.losses + a.losses;
  memory = s.memory || is_memory a.ended;
  all_lost = s.all_lost && is_given_up a.ended;
  why = first_why s.why a.ended;
  parts = with_one s.parts;
  left = s.left - 1;
}

-- a link came back, with what was sent on it in this call after what was sent before
pub record Returns (given back : Mark) : Type 0 where
  pub more : List (ℕ × Job)
  pub prefix : back.sent ≡ given.sent ++ more
  pub later : given.faults ≤ back.faults

module _ (tells : Job → Type 0) (retries : ℕ) where
  -- two answers that are said to differ do so, and not all jobs that were sent are told
  abbrev pub ShowUntold : List Mark → WorkerEnd → Type 0
  ShowUntold back Going = Unit {0}
  ShowUntold back GaveUp = Unit {0}
  ShowUntold back (Differs resolved first second) = (first ≢ second) × (AreTold tells back → ⊥)
  ShowUntold back Memory = Unit {0}

  -- the numbers of all workers fit the links that were given
  pub record Fits (given : List Mark) (s : Sum) : Type 0 where
    pub links : AllZip Returns given s.back
    pub sent : sent_in s.back ≤ sent_in given + s.starts
    pub starts : s.memory ≡ false → AllByRecursion CountsOn s.back → s.starts + sent_in given + faults_in given ≤ sent_in s.back + faults_in s.back
    pub losses : s.memory ≡ false → AllByRecursion CountsOn s.back → s.losses + faults_in given ≤ faults_in s.back
    pub lost : s.all_lost ≡ true → AllZip (IsLost retries) given s.back
    pub differs : ShowUntold s.back s.why
