-- Counts of a keeper and of a tree, by the answer of a call and of those before it.
use Rattle.std.proofs.Common.{◌≡◌, ◌≤◌, ℕ, List, Result, Ok, Err, IsErr, IsErrAnd, refl, subst, ◌∙◌, arith}
use Rattle.object_name.specs.Causes.{HasCauseBy, TriesAtMost, faults_of}
use Rattle.object_name.specs.declared.trouble.Trouble.{Trouble}
use Rattle.object_name.specs.declared.trouble.Trouble.TheVariants as troubles
use Rattle.object_name.proofs.PublicLaws.{tries-none, tries-trans}
use Rattle.object_name.specs.Name.{ObjectName}
use Rattle.blob_store.specs.Keeping.{StoreCause, ShowsClash, store_failures}
use Rattle.blob_store.specs.declared.storing.StoreFault.{StoreFault}
use Rattle.blob_store.specs.declared.storing.StoreFault.TheVariants as stores
use Rattle.file_tree.specs.Files.{Files}
use Rattle.file_tree.specs.declared.change.Change.{Change}
use Rattle.file_tree.specs.declared.model_fault.ApplyFault.{ApplyFault}
use Rattle.file_tree.specs.declared.model_fault.ApplyFault.TheVariants as faults
use Rattle.build_plan.specs.Applying.{ApplyCause, ClashShows, kept_failures, file_failures}
use Rattle.build_plan.proofs.WorkGoesOn.{handed}
use Rattle.build_plan.specs.StepContracts.{fault_of_store, fault_of_tree, NoCallFails, IsOfFiles, IsOfKeeper, ReadsFiles, FaresFiles, FaresKeeper, Fares}

-- ---- causes

-- a cause of what came later is one of all
cause-earlier : {A : Type 0} (retries k l m f g h : ℕ) (r : Result A ApplyFault) → k ≤ l → f ≤ g → ApplyCause retries l m g h r → ApplyCause retries k m f h r
cause-earlier retries k l m f g h (Ok x) kl fg c = tt
cause-earlier retries k l m f g h (Err (faults.Refused refusal)) kl fg c = tt
cause-earlier retries k l m f g h (Err (faults.Reason reason)) kl fg c = tt
cause-earlier retries k l m f g h (Err (faults.Clash name found fresh)) kl fg c = tt
cause-earlier retries k l m f g h (Err faults.StoreFailed) kl fg c = omega (arith, c, kl)
cause-earlier retries k l m f g h (Err faults.FileFailed) kl fg c = omega (arith, c, fg)
cause-earlier retries k l m f g h (Err faults.Memory) kl fg c = tt

-- a cause of a tree's is one whatever a keeper counts
cause-files : {A : Type 0} (retries k l f g : ℕ) (r : Result A ApplyFault) → IsOfFiles r → ApplyCause retries 0 0 f g r → ApplyCause retries k l f g r
cause-files retries k l f g (Ok x) only c = tt
cause-files retries k l f g (Err (faults.Refused refusal)) only c = tt
cause-files retries k l f g (Err (faults.Reason reason)) only c = tt
cause-files retries k l f g (Err (faults.Clash name found fresh)) only c = tt
cause-files retries k l f g (Err faults.StoreFailed) only c = absurd only
cause-files retries k l f g (Err faults.FileFailed) only c = c
cause-files retries k l f g (Err faults.Memory) only c = tt

cause-keeper : {A : Type 0} (retries k l f g : ℕ) (r : Result A ApplyFault) → IsOfKeeper r → ApplyCause retries k l 0 0 r → ApplyCause retries k l f g r
cause-keeper retries k l f g (Ok x) only c = tt
cause-keeper retries k l f g (Err (faults.Refused refusal)) only c = tt
cause-keeper retries k l f g (Err (faults.Reason reason)) only c = tt
cause-keeper retries k l f g (Err (faults.Clash name found fresh)) only c = tt
cause-keeper retries k l f g (Err faults.StoreFailed) only c = c
cause-keeper retries k l f g (Err faults.FileFailed) only c = absurd only
cause-keeper retries k l f g (Err faults.Memory) only c = tt

files-unkept : {A : Type 0} (r : Result A ApplyFault) → IsOfFiles r → 0 ≡ kept_failures r
files-unkept (Ok x) only = refl
files-unkept (Err (faults.Refused refusal)) only = refl
files-unkept (Err (faults.Reason reason)) only = refl
files-unkept (Err (faults.Clash name found fresh)) only = refl
files-unkept (Err faults.StoreFailed) only = absurd only
files-unkept (Err faults.FileFailed) only = refl
files-unkept (Err faults.Memory) only = refl

kept-unfiled : {A : Type 0} (r : Result A ApplyFault) → IsOfKeeper r → 0 ≡ file_failures r
kept-unfiled (Ok x) only = refl
kept-unfiled (Err (faults.Refused refusal)) only = refl
kept-unfiled (Err (faults.Reason reason)) only = refl
kept-unfiled (Err (faults.Clash name found fresh)) only = refl
kept-unfiled (Err faults.StoreFailed) only = refl
kept-unfiled (Err faults.FileFailed) only = absurd only
kept-unfiled (Err faults.Memory) only = refl

files-clash : {A : Type 0} (r : Result A ApplyFault) → IsOfFiles r → ClashShows r
files-clash (Ok x) only = tt
files-clash (Err (faults.Refused refusal)) only = tt
files-clash (Err (faults.Reason reason)) only = tt
files-clash (Err (faults.Clash name found fresh)) only = absurd only
files-clash (Err faults.StoreFailed) only = tt
files-clash (Err faults.FileFailed) only = tt
files-clash (Err faults.Memory) only = tt

-- ---- no call failed

pub none-of-files : {A : Type 0} (r : Result A ApplyFault) → NoCallFails r → IsOfFiles r
none-of-files (Ok x) none = tt
none-of-files (Err (faults.Refused refusal)) none = tt
none-of-files (Err (faults.Reason reason)) none = tt
none-of-files (Err (faults.Clash name found fresh)) none = absurd none
none-of-files (Err faults.StoreFailed) none = absurd none
none-of-files (Err faults.FileFailed) none = absurd none
none-of-files (Err faults.Memory) none = tt

pub none-of-keeper : {A : Type 0} (r : Result A ApplyFault) → NoCallFails r → IsOfKeeper r
none-of-keeper (Ok x) none = tt
none-of-keeper (Err (faults.Refused refusal)) none = tt
none-of-keeper (Err (faults.Reason reason)) none = tt
none-of-keeper (Err (faults.Clash name found fresh)) none = absurd none
none-of-keeper (Err faults.StoreFailed) none = absurd none
none-of-keeper (Err faults.FileFailed) none = absurd none
none-of-keeper (Err faults.Memory) none = tt

pub none-cause : {A : Type 0} (retries k l f g : ℕ) (r : Result A ApplyFault) → NoCallFails r → ApplyCause retries k l f g r
none-cause retries k l f g (Ok x) none = tt
none-cause retries k l f g (Err (faults.Refused refusal)) none = tt
none-cause retries k l f g (Err (faults.Reason reason)) none = tt
none-cause retries k l f g (Err (faults.Clash name found fresh)) none = absurd none
none-cause retries k l f g (Err faults.StoreFailed) none = absurd none
none-cause retries k l f g (Err faults.FileFailed) none = absurd none
none-cause retries k l f g (Err faults.Memory) none = tt

pub none-clash : {A : Type 0} (r : Result A ApplyFault) → NoCallFails r → ClashShows r
none-clash (Ok x) none = tt
none-clash (Err (faults.Refused refusal)) none = tt
none-clash (Err (faults.Reason reason)) none = tt
none-clash (Err (faults.Clash name found fresh)) none = absurd none
none-clash (Err faults.StoreFailed) none = absurd none
none-clash (Err faults.FileFailed) none = absurd none
none-clash (Err faults.Memory) none = tt

none-filed : {A : Type 0} (r : Result A ApplyFault) → NoCallFails r → 0 ≡ file_failures r
none-filed (Ok x) none = refl
none-filed (Err (faults.Refused refusal)) none = refl
none-filed (Err (faults.Reason reason)) none = refl
none-filed (Err (faults.Clash name found fresh)) none = absurd none
none-filed (Err faults.StoreFailed) none = absurd none
none-filed (Err faults.FileFailed) none = absurd none
none-filed (Err faults.Memory) none = refl

none-kept : {A : Type 0} (r : Result A ApplyFault) → NoCallFails r → 0 ≡ kept_failures r
none-kept (Ok x) none = refl
none-kept (Err (faults.Refused refusal)) none = refl
none-kept (Err (faults.Reason reason)) none = refl
none-kept (Err (faults.Clash name found fresh)) none = absurd none
none-kept (Err faults.StoreFailed) none = absurd none
none-kept (Err faults.FileFailed) none = absurd none
none-kept (Err faults.Memory) none = refl

-- ---- a tree alone

module _ {T : Type 0} (tells : Type 0) (calls counts : T → ℕ) (retries : ℕ) where
  -- where no call fails, none was made
  pub files-none : {A : Type 0} (old : T) (r : Result A ApplyFault) → NoCallFails r → FaresFiles tells calls counts retries old old r
  files-none old r none = record {
    only = none-of-files r none;
    later = omega arith;
    cause = none-cause retries 0 0 (counts old) (counts old) r none;
    tries = λ told. subst (TriesAtMost retries calls counts old old) (none-filed r none) (tries-none retries calls counts old);
  }

  pub files-then : {A B : Type 0} (x : A) (old mid now : T) (r : Result B ApplyFault) → FaresFiles tells calls counts retries old mid (Ok x) → FaresFiles tells calls counts retries mid now r → FaresFiles tells calls counts retries old now r
  files-then x old mid now r first then = record {
    only = then.only;
    later = omega (arith, first.later, then.later);
    cause = cause-earlier retries 0 0 0 (counts old) (counts mid) (counts now) r (omega arith) first.later then.cause;
    tries = λ told. tries-trans retries calls counts old mid now (file_failures r) (first.tries told) (then.tries told);
  }

  -- one call of a tree, by its answer
  pub called-ok : (X A : Type 0) (x : X) (y : A) (old now : T) → HasCauseBy {T = X} retries (counts old) (counts now) (Ok x) → (tells → TriesAtMost retries calls counts old now 0) → FaresFiles {A = A} tells calls counts retries old now (Ok y)
  called-ok X A x y old now cause tries = record { only = tt; later = cause.later; cause = tt; tries = tries }

  pub called-fault : (X A : Type 0) (trouble : Trouble) (old now : T) → HasCauseBy {T = X} retries (counts old) (counts now) (Err trouble) → (tells → TriesAtMost retries calls counts old now (faults_of {T = X} (Err trouble))) → FaresFiles {A = A} tells calls counts retries old now (Err (fault_of_tree trouble))
  called-fault X A troubles.Failed old now cause tries = record { only = tt; later = cause.later; cause = cause.failed refl; tries = tries }
  called-fault X A troubles.Memory old now cause tries = record { only = tt; later = cause.later; cause = tt; tries = tries }

  module _ (files : T → Files) (changes : T → List Change) where
    pub reads-none : {A : Type 0} (old : T) (r : Result A ApplyFault) → NoCallFails r → ReadsFiles tells files changes calls counts retries old old r
    reads-none old r none = record { same = λ told. refl; list = λ told. refl; fares = files-none old r none }

    pub reads-then : {A B : Type 0} (x : A) (old mid now : T) (r : Result B ApplyFault) → ReadsFiles tells files changes calls counts retries old mid (Ok x) → ReadsFiles tells files changes calls counts retries mid now r → ReadsFiles tells files changes calls counts retries old now r
    reads-then x old mid now r first then = record {
      same = λ told. then.same told ∙ first.same told;
      list = λ told. then.list told ∙ first.list told;
      fares = files-then x old mid now r first.fares then.fares;
    }

-- ---- a keeper alone

module _ {K : Type 0} (tells : Type 0) (calls counts : K → ℕ) (retries : ℕ) where
  pub keeper-none : {A : Type 0} (old : K) (r : Result A ApplyFault) → NoCallFails r → FaresKeeper tells calls counts retries old old r
  keeper-none old r none = record {
    only = none-of-keeper r none;
    clash = none-clash r none;
    later = omega arith;
    cause = none-cause retries (counts old) (counts old) 0 0 r none;
    tries = λ told. subst (TriesAtMost retries calls counts old old) (none-kept r none) (tries-none retries calls counts old);
  }

  pub keeper-then : {A B : Type 0} (x : A) (old mid now : K) (r : Result B ApplyFault) → FaresKeeper tells calls counts retries old mid (Ok x) → FaresKeeper tells calls counts retries mid now r → FaresKeeper tells calls counts retries old now r
  keeper-then x old mid now r first then = record {
    only = then.only;
    clash = then.clash;
    later = omega (arith, first.later, then.later);
    cause = cause-earlier retries (counts old) (counts mid) (counts now) 0 0 0 r first.later (omega arith) then.cause;
    tries = λ told. tries-trans retries calls counts old mid now (kept_failures r) (first.tries told) (then.tries told);
  }

-- storing an object failed
pub store-fault : {K : Type 0} (A : Type 0) (tells : Type 0) (calls counts : K → ℕ) (retries : ℕ) (old now : K) (bytes : List ℕ) (fault : StoreFault) → counts old ≤ counts now → StoreCause retries (counts old) (counts now) (Err fault)
    → ShowsClash bytes (Err fault) → (tells → TriesAtMost retries calls counts old now (store_failures {T = ObjectName} (Err fault))) → FaresKeeper {A = A} tells calls counts retries old now (Err (fault_of_store fault))
store-fault A tells calls counts retries old now bytes (stores.Clash name found fresh) later cause clash tries = record { only = tt; clash = clash.1; later = later; cause = tt; tries = tries }
store-fault A tells calls counts retries old now bytes stores.Failed later cause clash tries = record { only = tt; clash = tt; later = later; cause = cause; tries = tries }
store-fault A tells calls counts retries old now bytes stores.Memory later cause clash tries = record { only = tt; clash = tt; later = later; cause = tt; tries = tries }

-- ---- both

module _ {K T : Type 0} (kept_tells files_tell : Type 0) (kept_calls kept_counts : K → ℕ) (file_calls file_counts : T → ℕ) (retries : ℕ) where
  pub fares-none : {A : Type 0} (k : K) (t : T) (r : Result A ApplyFault) → NoCallFails r → Fares kept_tells files_tell kept_calls kept_counts file_calls file_counts retries k k t t r
  fares-none k t r none = record {
    clash = none-clash r none;
    kept_later = omega arith;
    files_later = omega arith;
    cause = none-cause retries (kept_counts k) (kept_counts k) (file_counts t) (file_counts t) r none;
    kept_tries = λ told. subst (TriesAtMost retries kept_calls kept_counts k k) (none-kept r none) (tries-none retries kept_calls kept_counts k);
    file_tries = λ told. subst (TriesAtMost retries file_calls file_counts t t) (none-filed r none) (tries-none retries file_calls file_counts t);
  }

  pub fares-then : {A B : Type 0} (x : A) (k l m : K) (t u v : T) (r : Result B ApplyFault)
      → Fares kept_tells files_tell kept_calls kept_counts file_calls file_counts retries k l t u (Ok x)
      → Fares kept_tells files_tell kept_calls kept_counts file_calls file_counts retries l m u v r
      → Fares kept_tells files_tell kept_calls kept_counts file_calls file_counts retries k m t v r
  fares-then x k l m t u v r first then = record {
    clash = then.clash;
    kept_later = omega (arith, first.kept_later, then.kept_later);
    files_later = omega (arith, first.files_later, then.files_later);
    cause = cause-earlier retries (kept_counts k) (kept_counts l) (kept_counts m) (file_counts t) (file_counts u) (file_counts v) r first.kept_later first.files_later then.cause;
    kept_tries = λ told. tries-trans retries kept_calls kept_counts k l m (kept_failures r) (first.kept_tries told) (then.kept_tries told);
    file_tries = λ told. tries-trans retries file_calls file_counts t u v (file_failures r) (first.file_tries told) (then.file_tries told);
  }

  -- a tree's calls alone
  pub fares-files : {A : Type 0} (k : K) (t u : T) (r : Result A ApplyFault) → FaresFiles files_tell file_calls file_counts retries t u r
      → Fares kept_tells files_tell kept_calls kept_counts file_calls file_counts retries k k t u r
  fares-files k t u r h = record {
    clash = files-clash r h.only;
    kept_later = omega arith;
    files_later = h.later;
    cause = cause-files retries (kept_counts k) (kept_counts k) (file_counts t) (file_counts u) r h.only h.cause;
    kept_tries = λ told. subst (TriesAtMost retries kept_calls kept_counts k k) (files-unkept r h.only) (tries-none retries kept_calls kept_counts k);
    file_tries = h.tries;
  }

  -- a keeper's calls alone
  pub fares-keeper : {A : Type 0} (k l : K) (t : T) (r : Result A ApplyFault) → FaresKeeper kept_tells kept_calls kept_counts retries k l r
      → Fares kept_tells files_tell kept_calls kept_counts file_calls file_counts retries k l t t r
  fares-keeper k l t r h = record {
    clash = h.clash;
    kept_later = h.later;
    files_later = omega arith;
    cause = cause-keeper retries (kept_counts k) (kept_counts l) (file_counts t) (file_counts t) r h.only h.cause;
    kept_tries = h.tries;
    file_tries = λ told. subst (TriesAtMost retries file_calls file_counts t t) (kept-unfiled r h.only) (tries-none retries file_calls file_counts t);
  }

-- ---- a fault that is an answer of another call's type

module _ {K T : Type 0} (kept_tells files_tell : Type 0) (kept_calls kept_counts : K → ℕ) (file_calls file_counts : T → ℕ) (retries : ℕ) (A B : Type 0) (k l : K) (t u : T) where
  pub fares-fault : (fault : ApplyFault) → Fares {A = A} kept_tells files_tell kept_calls kept_counts file_calls file_counts retries k l t u (Err fault)
      → Fares {A = B} kept_tells files_tell kept_calls kept_counts file_calls file_counts retries k l t u (Err fault)
  fares-fault (faults.Refused refusal) h = record { clash = h.clash; kept_later = h.kept_later; files_later = h.files_later; cause = h.cause; kept_tries = h.kept_tries; file_tries = h.file_tries }
  fares-fault (faults.Reason reason) h = record { clash = h.clash; kept_later = h.kept_later; files_later = h.files_later; cause = h.cause; kept_tries = h.kept_tries; file_tries = h.file_tries }
  fares-fault (faults.Clash name found fresh) h = record { clash = h.clash; kept_later = h.kept_later; files_later = h.files_later; cause = h.cause; kept_tries = h.kept_tries; file_tries = h.file_tries }
  fares-fault faults.StoreFailed h = record { clash = h.clash; kept_later = h.kept_later; files_later = h.files_later; cause = h.cause; kept_tries = h.kept_tries; file_tries = h.file_tries }
  fares-fault faults.FileFailed h = record { clash = h.clash; kept_later = h.kept_later; files_later = h.files_later; cause = h.cause; kept_tries = h.kept_tries; file_tries = h.file_tries }
  fares-fault faults.Memory h = record { clash = h.clash; kept_later = h.kept_later; files_later = h.files_later; cause = h.cause; kept_tries = h.kept_tries; file_tries = h.file_tries }

module _ {T : Type 0} (tells : Type 0) (calls counts : T → ℕ) (retries : ℕ) (A B : Type 0) (t u : T) where
  pub files-fault : (fault : ApplyFault) → FaresFiles {A = A} tells calls counts retries t u (Err fault) → FaresFiles {A = B} tells calls counts retries t u (Err fault)
  files-fault (faults.Refused refusal) h = record { only = h.only; later = h.later; cause = h.cause; tries = h.tries }
  files-fault (faults.Reason reason) h = record { only = h.only; later = h.later; cause = h.cause; tries = h.tries }
  files-fault (faults.Clash name found fresh) h = record { only = h.only; later = h.later; cause = h.cause; tries = h.tries }
  files-fault faults.StoreFailed h = record { only = h.only; later = h.later; cause = h.cause; tries = h.tries }
  files-fault faults.FileFailed h = record { only = h.only; later = h.later; cause = h.cause; tries = h.tries }
  files-fault faults.Memory h = record { only = h.only; later = h.later; cause = h.cause; tries = h.tries }

  pub keeper-fault : (fault : ApplyFault) → FaresKeeper {A = A} tells calls counts retries t u (Err fault) → FaresKeeper {A = B} tells calls counts retries t u (Err fault)
  keeper-fault (faults.Refused refusal) h = record { only = h.only; clash = h.clash; later = h.later; cause = h.cause; tries = h.tries }
  keeper-fault (faults.Reason reason) h = record { only = h.only; clash = h.clash; later = h.later; cause = h.cause; tries = h.tries }
  keeper-fault (faults.Clash name found fresh) h = record { only = h.only; clash = h.clash; later = h.later; cause = h.cause; tries = h.tries }
  keeper-fault faults.StoreFailed h = record { only = h.only; clash = h.clash; later = h.later; cause = h.cause; tries = h.tries }
  keeper-fault faults.FileFailed h = record { only = h.only; clash = h.clash; later = h.later; cause = h.cause; tries = h.tries }
  keeper-fault faults.Memory h = record { only = h.only; clash = h.clash; later = h.later; cause = h.cause; tries = h.tries }

  module _ (files : T → Files) (changes : T → List Change) where
    pub reads-fault : (fault : ApplyFault) → ReadsFiles {A = A} tells files changes calls counts retries t u (Err fault) → ReadsFiles {A = B} tells files changes calls counts retries t u (Err fault)
    reads-fault fault h = record { same = h.same; list = h.list; fares = files-fault fault h.fares }

-- ---- what a `?` hands on

pub handed-files : {T A B : Type 0} (tells : Type 0) (calls counts : T → ℕ) (retries : ℕ) (t u : T) (fault : ApplyFault) (r : Result B ApplyFault) → IsErr r × IsErrAnd r (λ d. d ≡ fault)
    → FaresFiles {A = A} tells calls counts retries t u (Err fault) → FaresFiles tells calls counts retries t u r
handed-files {A = A} {B = B} tells calls counts retries t u fault r is h = handed (FaresFiles tells calls counts retries t u) r fault is (files-fault tells calls counts retries A B t u fault h)

pub handed-reads : {T A B : Type 0} (tells : Type 0) (files : T → Files) (changes : T → List Change) (calls counts : T → ℕ) (retries : ℕ) (t u : T) (fault : ApplyFault) (r : Result B ApplyFault) → IsErr r × IsErrAnd r (λ d. d ≡ fault)
    → ReadsFiles {A = A} tells files changes calls counts retries t u (Err fault) → ReadsFiles tells files changes calls counts retries t u r
handed-reads {A = A} {B = B} tells files changes calls counts retries t u fault r is h = handed (ReadsFiles tells files changes calls counts retries t u) r fault is (reads-fault tells calls counts retries A B t u files changes fault h)

pub handed-keeper : {K A B : Type 0} (tells : Type 0) (calls counts : K → ℕ) (retries : ℕ) (t u : K) (fault : ApplyFault) (r : Result B ApplyFault) → IsErr r × IsErrAnd r (λ d. d ≡ fault)
    → FaresKeeper {A = A} tells calls counts retries t u (Err fault) → FaresKeeper tells calls counts retries t u r
handed-keeper {A = A} {B = B} tells calls counts retries t u fault r is h = handed (FaresKeeper tells calls counts retries t u) r fault is (keeper-fault tells calls counts retries A B t u fault h)

pub handed-fares : {K T A B : Type 0} (kept_tells files_tell : Type 0) (kept_calls kept_counts : K → ℕ) (file_calls file_counts : T → ℕ) (retries : ℕ) (k l : K) (t u : T) (fault : ApplyFault) (r : Result B ApplyFault) → IsErr r × IsErrAnd r (λ d. d ≡ fault)
    → Fares {A = A} kept_tells files_tell kept_calls kept_counts file_calls file_counts retries k l t u (Err fault) → Fares kept_tells files_tell kept_calls kept_counts file_calls file_counts retries k l t u r
handed-fares {A = A} {B = B} kept_tells files_tell kept_calls kept_counts file_calls file_counts retries k l t u fault r is h =
    handed (Fares kept_tells files_tell kept_calls kept_counts file_calls file_counts retries k l t u) r fault is (fares-fault kept_tells files_tell kept_calls kept_counts file_calls file_counts retries A B k l t u fault h)
