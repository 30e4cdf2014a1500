-- Changes of files, one after another.
use Rattle.object_name.specs.Name.{ObjectName}
use Rattle.thunk_codec.specs.Placeholder.{placeholder_text}
use Rattle.file_tree.specs.declared.change.Change.TheVariants.{Written}
use Rattle.build_plan.specs.Creating.{placeholders}
use Rattle.build_plan.proofs.FilesAreFound.{next-drop}
use Rattle.std.proofs.Common.{◌≡◌, ◌+◌, ◌<◌, add-one, drop, get_or, length, ℕ, inl, List, [], ◌∷◌, ◌++◌, Result, Ok, Err, refl, sym, ap, ◌∙◌, append_assoc, append-nil}
use Rattle.object_name.specs.declared.trouble.Trouble.{Trouble}
use Rattle.object_name.specs.declared.trouble.Trouble.TheVariants as troubles
use Rattle.object_name.proofs.PublicLaws.{ListsMade-after}
use Rattle.file_tree.specs.Files.{Files, filed_in, Filed, ChangesPrefix, MayChange, after_change, changed, all_changed}
use Rattle.file_tree.specs.declared.change.Change.{Change}
use Rattle.file_tree.specs.declared.model_fault.ApplyFault.{ApplyFault}
use Rattle.file_tree.specs.declared.model_fault.ApplyFault.TheVariants as faults
use Rattle.file_tree.proofs.PublicLaws.{may_be_changed, all_changed-none, changed-append, all_changed-append}
use Rattle.build_plan.specs.Doing.{Got, go_on, give, each}
use Rattle.build_plan.specs.Symbolic.{Work, file_changed}
use Rattle.build_plan.specs.StepContracts.{Changes, FaresFiles, fault_of_tree}

-- one that was answered Ok
pub one-changed : (change : Change) (old new : Filed) → new.files ≡ after_change old.files change → new.changes ≡ old.changes ++ change ∷ [] → new ≡ all_changed old (change ∷ [])
one-changed change old new made listed = λ i. record { files = made i; changes = listed i }

-- one that failed
pub changed-fault : (A : Type 0) (change : Change) (old new : Filed) (trouble : Trouble) → MayChange old.files change new.files → new.changes ≡ old.changes → Changes {A = A} (change ∷ []) old new (Err (fault_of_tree trouble))
changed-fault A change old new troubles.Failed may list = may_be_changed change old new may list
changed-fault A change old new troubles.Memory may list = may_be_changed change old new may list

-- some of the changes are made, and these are left
pub record HasChanged (all left : List Change) (before now : Filed) : Type 0 where
  pub part : List Change
  pub whole : all ≡ part ++ left
  pub files : now ≡ all_changed before part

pub changed-none : (all : List Change) (before : Filed) → HasChanged all all before before
changed-none all before = record { part = []; whole = refl; files = all_changed-none before }

-- no change is made
pub no-prefix : (all : List Change) (before : Filed) → ChangesPrefix all before before
no-prefix all before = record { prefix = []; is_prefix = record { rest = all; whole = refl }; files = refl; listed = inl (sym (append-nil before.changes)) }

module _ (all left : List Change) (before mid new : Filed) (h : HasChanged all left before mid) where
  -- a prefix of what is left
  left-prefix : ChangesPrefix left mid new → ChangesPrefix all before new
  left-prefix k = record {
    prefix = h.part ++ k.prefix;
    is_prefix = record { rest = k.is_prefix.rest; whole = h.whole ∙ ap (λ l. h.part ++ l) k.is_prefix.whole ∙ sym (append_assoc h.part k.prefix k.is_prefix.rest) };
    files = k.files ∙ ap (λ (f : Filed). changed f.files k.prefix) h.files ∙ sym (changed-append before.files h.part k.prefix);
    listed = ListsMade-after before.changes mid.changes new.changes h.part k.prefix (ap (λ (f : Filed). f.changes) h.files) k.listed;
  }

  -- what is left ended so
  pub changed-end : {A : Type 0} (r : Result A ApplyFault) → Changes left mid new r → Changes all before new r
  changed-end (Ok x) k = k ∙ ap (λ (f : Filed). all_changed f left) h.files ∙ sym (all_changed-append before h.part left) ∙ ap (λ l. all_changed before l) (sym h.whole)
  changed-end (Err (faults.Refused refusal)) k = k
  changed-end (Err (faults.Reason reason)) k = k
  changed-end (Err (faults.Clash name found fresh)) k = k
  changed-end (Err faults.StoreFailed) k = k
  changed-end (Err faults.FileFailed) k = left-prefix k
  changed-end (Err faults.Memory) k = left-prefix k

-- one more is made
pub changed-more : (all : List Change) (change : Change) (later : List Change) (before mid new : Filed) → HasChanged all (change ∷ later) before mid → new ≡ all_changed mid (change ∷ []) → HasChanged all later before new
changed-more all change later before mid new h is = record {
  part = h.part ++ change ∷ [];
  whole = h.whole ∙ sym (append_assoc h.part (change ∷ []) later);
  files = is ∙ ap (λ (f : Filed). all_changed f (change ∷ [])) h.files ∙ sym (all_changed-append before h.part (change ∷ []));
}

-- a prefix of one change is a prefix of it and others
one-prefix : (change : Change) (later : List Change) (now new : Filed) → ChangesPrefix (change ∷ []) now new → ChangesPrefix (change ∷ later) now new
one-prefix change later now new k = record {
  prefix = k.prefix;
  is_prefix = record { rest = k.is_prefix.rest ++ later; whole = ap (λ l. l ++ later) k.is_prefix.whole ∙ append_assoc k.prefix k.is_prefix.rest later };
  files = k.files;
  listed = k.listed;
}

one-fault : (A B : Type 0) (change : Change) (later : List Change) (now new : Filed) (fault : ApplyFault) → Changes {A = A} (change ∷ []) now new (Err fault) → Changes {A = B} (change ∷ later) now new (Err fault)
one-fault A B change later now new (faults.Refused refusal) k = k
one-fault A B change later now new (faults.Reason reason) k = k
one-fault A B change later now new (faults.Clash name found fresh) k = k
one-fault A B change later now new faults.StoreFailed k = k
one-fault A B change later now new faults.FileFailed k = one-prefix change later now new k
one-fault A B change later now new faults.Memory k = one-prefix change later now new k

-- the next one is stopped
pub changed-stop : (A B : Type 0) (all : List Change) (change : Change) (later : List Change) (before mid new : Filed) (fault : ApplyFault) → HasChanged all (change ∷ later) before mid
    → Changes {A = A} (change ∷ []) mid new (Err fault) → Changes {A = B} all before new (Err fault)
changed-stop A B all change later before mid new fault h k = changed-end all (change ∷ later) before mid new h {A = B} (Err fault) (one-fault A B change later mid new fault k)

-- none is left
pub changed-all : (all : List Change) (before now : Filed) → HasChanged all [] before now → now ≡ all_changed before all
changed-all all before now h = h.files ∙ ap (λ l. all_changed before l) (sym (h.whole ∙ append-nil h.part))

-- ---- by the definition

-- a tree's files and its list, after some changes
abbrev pub with_changes : Work → List Change → Work
with_changes w changes = record w { files = changed w.files changes; changes = w.changes ++ changes }

pub record AllGiven (changes : List Change) (w : Work) : Type 0 where
  pub given : List (Unit {0})
  pub got : each file_changed changes w ≡ Got given (with_changes w changes)

pub all-given : (changes : List Change) (w : Work) → AllGiven changes w
all-given [] w = record { given = []; got = λ i. Got [] (record w { changes = sym (append-nil w.changes) i }) }
all-given (change ∷ changes) w =
    let next = record w { files = after_change w.files change; changes = w.changes ++ change ∷ [] } in
    let rest = all-given changes next in
    record {
      given = tt ∷ rest.given;
      got = ap (λ e. go_on e (λ ys. give (tt ∷ ys))) rest.got
          ∙ λ i. Got (tt ∷ rest.given) (record w { files = changed (after_change w.files change) changes; changes = append_assoc w.changes (change ∷ []) changes i });
    }

-- while files are changed, a count of the tree's
pub record IsChanging {T : Type 0} (tells : Type 0) (files : T → Files) (changes : T → List Change) (calls counts : T → ℕ) (retries : ℕ) (all left : List Change) (old now : T) : Type 0 where
  pub made : tells → HasChanged all left (filed_in files changes old) (filed_in files changes now)
  pub fares : FaresFiles {A = Unit {0}} tells calls counts retries old now (Ok tt)

-- the placeholder of the next output stands first among those that are left
pub next-placeholder : (name : ObjectName) (outputs : List (List ℕ)) (i : ℕ) (path : List ℕ) → i < length outputs → path ≡ get_or outputs i path
    → placeholders name i (drop i outputs) ≡ Written path (placeholder_text name i) ∷ placeholders name (i + 1) (drop (i + 1) outputs)
next-placeholder name outputs i path within is =
    ap (placeholders name i) (next-drop outputs i path within is) ∙ ap (λ (n : ℕ). Written path (placeholder_text name i) ∷ placeholders name n (drop (i + 1) outputs)) (sym (add-one i))
