-- Workers that go on.
use Rattle.std.proofs.Common.{◌≡◌, ◌<◌, ℕ, List, ◌++◌, length, true, false, refl, ap, ◌∙◌, arith, append_assoc, length-append}
use Rattle.std.proofs.lemmas.Bool.{false≢true}
use Rattle.thunk_codec.specs.declared.job.Job.{Job}
use Rattle.force_pool.specs.declared.worker_end.WorkerEnd.{WorkerEnd}
use Rattle.force_pool.specs.declared.worker_end.WorkerEnd.TheVariants.{Going, GaveUp, Differs, Memory}
use Rattle.force_pool.specs.Account.{Account, is_going, is_memory, Advances, Goes}
use Rattle.force_pool.specs.Links.{last_count}

going-no-memory : (e : WorkerEnd) → is_going e ≡ true → is_memory e ≡ false
going-no-memory Going is = refl
going-no-memory GaveUp is = refl
going-no-memory (Differs resolved first second) is = refl
going-no-memory Memory is = absurd (false≢true is)

-- one step
pub advances-goes : (tells : Job → Type 0) (a b : Account) → Advances tells a b → Goes tells a b
advances-goes tells a b s retries given faults g =
    let clear = going-no-memory a.ended s.going in
    let n = ap (λ (l : List (ℕ × Job)). length l) s.prefix ∙ length-append a.sent s.more in
    record {
      tries = s.tries ∙ g.tries;
      more = g.more ++ s.more;
      prefix = s.prefix ∙ ap (λ (l : List (ℕ × Job)). l ++ s.more) g.prefix ∙ append_assoc given g.more s.more;
      later = omega (arith, g.later, s.later);
      sent = omega (arith, n, g.sent, s.sent);
      starts = λ m below. let below_a : a.faults < last_count = omega (arith, s.later, below) in omega (arith, n, s.starts m below, g.starts clear below_a);
      losses = λ m below. let below_a : a.faults < last_count = omega (arith, s.later, below) in omega (arith, s.losses m below, g.losses clear below_a);
      failures = omega (arith, g.failures, s.failed, s.failures);
      gave_up = λ up. omega (arith, g.failures, g.tries, s.gave_up up);
      differs = s.differs;
    }

-- none
pub goes-same : (tells : Job → Type 0) (a : Account) → Goes tells a a
goes-same tells a retries given faults g = g

-- one after another
pub goes-on : (tells : Job → Type 0) (a b c : Account) → Goes tells a b → Goes tells b c → Goes tells a c
goes-on tells a b c p q retries given faults g = q retries given faults (p retries given faults g)
