-- Counts of a tree's calls, by the answer of a call and of those before it.
use Rattle.std.proofs.Common.{◌≡◌, ◌≤◌, ℕ, List, Result, Ok, Err, IsErr, IsErrAnd, refl, sym, subst, ◌∙◌, arith}
use Rattle.object_name.specs.Causes.{HasCauseBy, TriesAtMost, faults_of}
use Rattle.object_name.specs.declared.trouble.Trouble.{Trouble}
use Rattle.object_name.specs.declared.trouble.Trouble.TheVariants as troubles
use Rattle.object_name.proofs.PublicLaws.{tries-none, tries-trans}
use Rattle.file_tree.specs.Files.{Files}
use Rattle.file_tree.specs.declared.change.Change.{Change}
use Rattle.include_scan.specs.Scanning.{ScanCause, scan_failures}
use Rattle.include_scan.specs.declared.fault.ScanFault.{ScanFault}
use Rattle.include_scan.specs.declared.fault.ScanFault.TheVariants as scans
use Rattle.build_script.specs.declared.run_fault.RunFault.{RunFault}
use Rattle.build_script.specs.WorkAtOnce.{Fares, Reads, failures, failures_of, fault_of_scan, fault_of_tree}

-- a fault that a `?` hands on
pub handed : {A : Type 0} (P : Result A RunFault → Type 0) (r : Result A RunFault) (fault : RunFault) → IsErr r × IsErrAnd r (λ d. d ≡ fault) → P (Err fault) → P r
handed P (Ok x) fault h p = absurd h.1
handed P (Err d) fault h p = subst (λ e. P (Err e)) (sym h.1) p

module _ {T : Type 0} (tells : Type 0) (calls counts : T → ℕ) (retries : ℕ) where
  -- no call was made
  pub fares-none : (old : T) → Fares tells calls counts retries old old 0
  fares-none old = record { later = omega arith; cause = λ some. absurd (omega (arith, some)); tries = λ told. tries-none retries calls counts old }

  pub fares-then : (old mid now : T) (failed : ℕ) → Fares tells calls counts retries old mid 0 → Fares tells calls counts retries mid now failed → Fares tells calls counts retries old now failed
  fares-then old mid now failed first then = record {
    later = omega (arith, first.later, then.later);
    cause = λ some. let rose = then.cause some in omega (arith, first.later, rose);
    tries = λ told. tries-trans retries calls counts old mid now failed (first.tries told) (then.tries told);
  }

  -- one call of a tree, by its answer
  pub called-ok : {X : Type 0} (x : X) (old now : T) → HasCauseBy retries (counts old) (counts now) (Ok x) → (tells → TriesAtMost retries calls counts old now 0) → Fares tells calls counts retries old now 0
  called-ok x old now cause tries = record { later = cause.later; cause = λ some. absurd (omega (arith, some)); tries = tries }

  pub called-fault : (X : Type 0) (trouble : Trouble) (old now : T) → HasCauseBy {T = X} retries (counts old) (counts now) (Err trouble) → (tells → TriesAtMost retries calls counts old now (faults_of {T = X} (Err trouble)))
      → Fares tells calls counts retries old now (failures_of (fault_of_tree trouble))
  called-fault X troubles.Failed old now cause tries = record { later = cause.later; cause = λ some. cause.failed refl; tries = tries }
  called-fault X troubles.Memory old now cause tries = record { later = cause.later; cause = λ some. absurd (omega (arith, some)); tries = tries }

  -- scanning failed
  pub scan-fault : (X : Type 0) (fault : ScanFault) (old now : T) → counts old ≤ counts now → ScanCause {X = X} retries (counts old) (counts now) (Err fault) → (tells → TriesAtMost retries calls counts old now (scan_failures {X = X} (Err fault)))
      → Fares tells calls counts retries old now (failures_of (fault_of_scan fault))
  scan-fault X (scans.Refused refusal) old now later cause tries = record { later = later; cause = λ some. absurd (omega (arith, some)); tries = tries }
  scan-fault X scans.TooMany old now later cause tries = record { later = later; cause = λ some. absurd (omega (arith, some)); tries = tries }
  scan-fault X scans.Failed old now later cause tries = record { later = later; cause = λ some. cause; tries = tries }
  scan-fault X scans.Memory old now later cause tries = record { later = later; cause = λ some. absurd (omega (arith, some)); tries = tries }

  pub fares-as : {A : Type 0} (old now : T) (fault : RunFault) (r : Result A RunFault) → IsErr r × IsErrAnd r (λ d. d ≡ fault) → Fares tells calls counts retries old now (failures_of fault) → Fares tells calls counts retries old now (failures r)
  fares-as old now fault r is h = handed (λ r. Fares tells calls counts retries old now (failures r)) r fault is h

  module _ (files : T → Files) (changes : T → List Change) where
    pub reads-none : (old : T) → Reads tells files changes calls counts retries old old 0
    reads-none old = record { same = λ told. refl; list = λ told. refl; fares = fares-none old }

    pub reads-then : (old mid now : T) (failed : ℕ) → Reads tells files changes calls counts retries old mid 0 → Reads tells files changes calls counts retries mid now failed → Reads tells files changes calls counts retries old now failed
    reads-then old mid now failed first then = record {
      same = λ told. then.same told ∙ first.same told;
      list = λ told. then.list told ∙ first.list told;
      fares = fares-then old mid now failed first.fares then.fares;
    }

    -- what was read before what needs no call
    pub reads-pure : (old now : T) (failed : ℕ) → failed ≡ 0 → Reads tells files changes calls counts retries old now 0 → Reads tells files changes calls counts retries old now failed
    reads-pure old now failed none h = subst (Reads tells files changes calls counts retries old now) (sym none) h

    pub reads-as : {A : Type 0} (old now : T) (fault : RunFault) (r : Result A RunFault) → IsErr r × IsErrAnd r (λ d. d ≡ fault) → Reads tells files changes calls counts retries old now (failures_of fault) → Reads tells files changes calls counts retries old now (failures r)
    reads-as old now fault r is h = handed (λ r. Reads tells files changes calls counts retries old now (failures r)) r fault is h

    -- and a fault that is no failure
    pub reads-as-none : {A : Type 0} (old now : T) (fault : RunFault) (r : Result A RunFault) → IsErr r × IsErrAnd r (λ d. d ≡ fault) → failures_of fault ≡ 0 → Reads tells files changes calls counts retries old now 0 → Reads tells files changes calls counts retries old now (failures r)
    reads-as-none old now fault r is none h = reads-as old now fault r is (reads-pure old now (failures_of fault) none h)
