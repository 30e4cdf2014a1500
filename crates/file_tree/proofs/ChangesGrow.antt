-- What trees tell, as changes are made.
use Rattle.std.proofs.Common.{◌≡◌, ◌⊎◌, inl, inr, ℕ, List, [], ◌∷◌, ◌++◌, refl, sym, ap, ◌∙◌, append_assoc, append-nil}
use Rattle.file_tree.specs.Files.{Files, Filed, MayChange, ChangesPrefix, after_change, changed, all_changed, filed_in}
use Rattle.file_tree.specs.declared.change.Change.{Change}

-- no change is made
pub all_changed-none : (before : Filed) → before ≡ all_changed before []
all_changed-none before = λ i. record { files = before.files; changes = sym (append-nil before.changes) i }

-- the files and the list of their changes are as they were
pub same_filed : {T : Type 0} (files : T → Files) (changes : T → List Change) (old new : T) → files new ≡ files old → changes new ≡ changes old → filed_in files changes new ≡ filed_in files changes old
same_filed files changes old new same list = λ i. record { files = same i; changes = list i }

-- some changes after others are the changes of both
pub changed-append : (files : Files) (first later : List Change) → changed files (first ++ later) ≡ changed (changed files first) later
changed-append files [] later = refl
changed-append files (change ∷ first) later = changed-append (after_change files change) first later

pub all_changed-append : (filed : Filed) (first later : List Change) → all_changed filed (first ++ later) ≡ all_changed (all_changed filed first) later
all_changed-append filed first later = λ i. record { files = changed-append filed.files first later i; changes = sym (append_assoc filed.changes first later) i }

-- a change that failed is a prefix of itself
pub may_be_changed : (change : Change) (old new : Filed) → MayChange old.files change new.files → new.changes ≡ old.changes → ChangesPrefix (change ∷ []) old new
may_be_changed change old new (inl same) list = record {
  prefix = [];
  is_prefix = record { rest = change ∷ []; whole = refl };
  files = same;
  listed = inl (list ∙ sym (append-nil old.changes));
}
may_be_changed change old new (inr made) list = record {
  prefix = change ∷ [];
  is_prefix = record { rest = []; whole = refl };
  files = made;
  listed = inr (record { prefix = []; last = change; split = refl; list = list ∙ sym (append-nil old.changes) });
}
