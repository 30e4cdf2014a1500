-- Calls that were made again where they failed.
use Rattle.std.proofs.Common.{◌≡◌, ◌≤◌, ◌<◌, ◌+◌, ◌-◌, ◌*◌, ◌^◌, ℕ, arith, refl}
use Rattle.std.proofs.Math.Nat.{mul-le-mul_left}
use Rattle.object_name.specs.Calls.{risen}
use Rattle.object_name.specs.Causes.{TriesAtMost}
use Rattle.object_name.proofs.TriesSoFar.{HasTried}

-- no call
pub tries-none : {K : Type 0} (n : ℕ) (calls faults : K → ℕ) (old : K) → TriesAtMost n calls faults old old 0
tries-none n calls faults old = record { later = λ _. omega arith; most = λ _. omega arith }

-- some calls, of which no failure was answered, and then more
pub tries-trans : {K : Type 0} (n : ℕ) (calls faults : K → ℕ) (old mid now : K) (answered : ℕ)
    → TriesAtMost n calls faults old mid 0 → TriesAtMost n calls faults mid now answered → TriesAtMost n calls faults old now answered
tries-trans n calls faults old mid now answered first then =
    record {
      later = λ below. let mid_below : calls mid < 2 ^ 64 - 1 = omega (arith, then.later below, below) in omega (arith, first.later mid_below, then.later below);
      most = λ below. let mid_below : calls mid < 2 ^ 64 - 1 = omega (arith, then.later below, below) in omega (arith, first.most mid_below, then.most below);
    }

-- the count of calls has risen with each try, by one, unless it stands at its last value
abbrev pub HasCounted : ℕ → ℕ → ℕ → Type 0
HasCounted before after tries = after < 2 ^ 64 - 1 → after ≡ before + tries

-- the last of some calls, after tries that failed
pub tries-last : {K : Type 0} (n : ℕ) (calls faults : K → ℕ) (old mid now : K) (tries answered : ℕ) → tries ≤ n
    → HasTried (faults old) (faults mid) tries → faults now ≤ faults mid + answered
    → HasCounted (calls old) (calls mid) tries → calls now ≡ risen (calls mid) → TriesAtMost n calls faults old now answered
tries-last n calls faults old mid now tries answered few tried failed counted one =
    let all : calls now < 2 ^ 64 - 1 → calls now ≡ calls old + tries + 1 =
    λ below. let mid_below : calls mid < 2 ^ 64 - 1 = omega (arith, one, below) in omega (arith, counted mid_below, one, below) in
    let most : faults now ≤ faults old + tries + answered = omega (arith, tried.most, failed) in
    let scaled : (n + 1) * faults now ≤ (n + 1) * (faults old + tries + answered) = mul-le-mul_left (n + 1) most in
    let made : calls now < 2 ^ 64 - 1 → n * calls now ≡ n * (calls old + tries + 1) = λ below. rw (all below) refl in
    record {
      later = λ below. omega (arith, all below);
      most = λ below. omega (arith, scaled, few, made below);
    }

-- more failures may be answered
pub tries-more : {K : Type 0} (n : ℕ) (calls faults : K → ℕ) (old now : K) (few many : ℕ) → few ≤ many → TriesAtMost n calls faults old now few → TriesAtMost n calls faults old now many
tries-more n calls faults old now few many le tried =
    let more : (n + 1) * few ≤ (n + 1) * many = mul-le-mul_left (n + 1) le in
    record { later = tried.later; most = λ below. omega (arith, tried.most below, more) }
