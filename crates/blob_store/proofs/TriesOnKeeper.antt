-- What holds while a call of a keeper that failed is tried again.
use Rattle.std.proofs.Common.{◌≡◌, ℕ, List}
use Rattle.object_name.proofs.PublicLaws.{HasTried}
use Rattle.blob_store.specs.Store.{Store, Write}
use Rattle.blob_store.specs.Keeping.{MayWrite}
use Rattle.object_name.proofs.PublicLaws.{HasCounted}

-- a call that reads is tried again: the store and the list of puts are as they were
pub record IsReading {K : Type 0} (tells : Type 0) (store : K → Store) (writes : K → List Write) (faults calls : K → ℕ) (old now : K) (tries : ℕ) : Type 0 where
  pub same : tells → store now ≡ store old
  pub list : tells → writes now ≡ writes old
  pub tried : HasTried (faults old) (faults now) tries
  pub counted : tells → HasCounted (calls old) (calls now) tries

-- a call that writes is tried again: its write may have been made, and none was answered Ok
pub record IsWriting {K : Type 0} (tells : Type 0) (store : K → Store) (writes : K → List Write) (faults calls : K → ℕ) (write : Write) (old now : K) (tries : ℕ) : Type 0 where
  pub may : tells → MayWrite (store old) write (store now)
  pub list : tells → writes now ≡ writes old
  pub tried : HasTried (faults old) (faults now) tries
  pub counted : tells → HasCounted (calls old) (calls now) tries
