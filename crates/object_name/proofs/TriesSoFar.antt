-- What holds while a call that failed is tried again.
use Rattle.std.proofs.Common.{◌≡◌, ◌≤◌, ◌+◌, ◌-◌, ◌^◌, ℕ}
use Rattle.std.specs.Prelude.{min}

-- the count has risen with each try, by one
pub record HasTried (before after tries : ℕ) : Type 0 where
  pub later : before ≤ after
  pub rose : min (before + tries) (2 ^ 64 - 1) ≤ after
  pub most : after ≤ before + tries

-- a call that reads is tried again: what is told is as it was
pub record IsReading {K S : Type 0} (tells : Type 0) (told : K → S) (faults : K → ℕ) (old now : K) (tries : ℕ) : Type 0 where
  pub same : tells → told now ≡ told old
  pub tried : HasTried (faults old) (faults now) tries

-- a call that writes is tried again: its write may have been made
pub record IsWriting {K S : Type 0} (tells : Type 0) (told : K → S) (faults : K → ℕ) (old now : K) (may_become : S → S → Type 0) (tries : ℕ) : Type 0 where
  pub may : tells → may_become (told old) (told now)
  pub tried : HasTried (faults old) (faults now) tries
