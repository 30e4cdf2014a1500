-- What keepers tell, as writes are made.
use Rattle.std.proofs.Common.{◌≡◌, List, [], ◌++◌, sym, ap, ◌∙◌, append_assoc, append-nil}
use Rattle.object_name.proofs.PublicLaws.{ListsMade-after}
use Rattle.blob_store.specs.Store.{Store, Write}
use Rattle.blob_store.specs.Keeping.{Kept, kept, all_written, WritesPrefix}
use Rattle.blob_store.proofs.HeldAfterStoring.{written-append}

-- no write is made
pub all_written-none : (before : Kept) → before ≡ all_written before []
all_written-none before = λ i. record { store = before.store; writes = sym (append-nil before.writes) i }

-- the store and the list of its writes are as they were
pub same_kept : {K : Type 0} (store : K → Store) (writes : K → List Write) (old new : K) → store new ≡ store old → writes new ≡ writes old → kept store writes new ≡ kept store writes old
same_kept store writes old new same list = λ i. record { store = same i; writes = list i }

-- some writes after others are the writes of both
pub all_written-append : (before : Kept) (first later : List Write) → all_written before (first ++ later) ≡ all_written (all_written before first) later
all_written-append before first later = λ i. record { store = written-append before.store first later i; writes = sym (append_assoc before.writes first later) i }
