-- Keepers that are only read.
use Rattle.std.proofs.Common.{ℕ, List, refl, ◌∙◌, arith}
use Rattle.blob_store.specs.Store.{Store, Write}
use Rattle.force_pool.specs.Walks.{IsOnlyRead}

-- not at all
pub read_none : {K : Type 0} (Told : Type 0) (store : K → Store) (writes : K → List Write) (faults : K → ℕ) (k : K) → IsOnlyRead Told store writes faults k k
read_none Told store writes faults k = record { same = λ told. refl; list = λ told. refl; later = omega arith }

-- once, and then again
pub read_both : {K : Type 0} (Told : Type 0) (store : K → Store) (writes : K → List Write) (faults : K → ℕ) (a b c : K) → IsOnlyRead Told store writes faults a b → IsOnlyRead Told store writes faults b c → IsOnlyRead Told store writes faults a c
read_both Told store writes faults a b c p q = record { same = λ told. q.same told ∙ p.same told; list = λ told. q.list told ∙ p.list told; later = omega (arith, p.later, q.later) }
