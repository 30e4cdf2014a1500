-- Values that go to their files, one after another.
use Rattle.std.proofs.Common.{◌≡◌, ℕ, ◌≤◌, List, [], ◌∷◌, ◌++◌, length, Result, Ok, Err, IsErr, IsErrAnd, ◌⊎◌, inl, inr, refl, sym, ap, subst, ◌∙◌, append_assoc, append-nil, arith}
use Rattle.std.specs.Prelude.{IsSome}
use Rattle.object_name.specs.Name.{ObjectName}
use Rattle.blob_store.specs.Store.{Store, Contents, Write, held}
use Rattle.object_name.specs.Causes.{TriesAtMost}
use Rattle.file_tree.specs.Files.{Files, Filed, after_change, changed, all_changed, filed_in, ChangesPrefix}
use Rattle.file_tree.specs.declared.change.Change.{Change}
use Rattle.file_tree.specs.declared.change.Change.TheVariants.{Written}
use Rattle.file_tree.specs.declared.item.Item.{Item}
use Rattle.need_eval.specs.MetObjects.{AreHeld}
use Rattle.gg_cli.specs.declared.fault.FilingFault.{FilingFault}
use Rattle.gg_cli.specs.declared.fault.FilingFault.TheVariants.{Missing, StoreFailed, FileFailed, Memory}
use Rattle.gg_cli.specs.ValueFiles.{item_filed, filed}
use Rattle.gg_cli.specs.StepContracts.{FilesValues, FilingCause}
use Rattle.object_name.proofs.PublicLaws.{ListsMade-after}
use Rattle.file_tree.proofs.PublicLaws.{changed-append, all_changed-append}

-- ---- one file

-- one that was answered Ok
pub is_filed : (path bytes : List ℕ) (old new : Filed) → new.files ≡ after_change old.files (Written path bytes) → new.changes ≡ old.changes ++ Written path bytes ∷ []
    → new ≡ all_changed old (Written path bytes ∷ [])
is_filed path bytes old new made listed = λ i. record { files = made i; changes = listed i }

-- ---- some files, and others after them

-- a part of the changes is made, and what is left of them isn't
pub record HasFiled (all left : List Change) (before now : Filed) : Type 0 where
  pub part : List Change
  pub whole : all ≡ part ++ left
  pub files : now ≡ all_changed before part

module _ (all left : List Change) (before mid new : Filed) (h : HasFiled all left before mid) where
  filed_by : (changes : List Change) → new ≡ all_changed mid changes → new ≡ all_changed before (h.part ++ changes)
  filed_by changes e = e ∙ ap (λ (f : Filed). all_changed f changes) h.files ∙ sym (all_changed-append before h.part changes)

  -- a part more is made
  HasFiled-more : (less : List Change) → HasFiled left less mid new → HasFiled all less before new
  HasFiled-more less k = record {
    part = h.part ++ k.part;
    whole = h.whole ∙ ap (λ l. h.part ++ l) k.whole ∙ sym (append_assoc h.part k.part less);
    files = filed_by k.part k.files;
  }

  prefix_filed : ChangesPrefix left mid new → ChangesPrefix all before new
  prefix_filed k = record {
    prefix = h.part ++ k.prefix;
    is_prefix = record { rest = k.is_prefix.rest; whole = h.whole ∙ ap (λ l. h.part ++ l) k.is_prefix.whole ∙ sym (append_assoc h.part k.prefix k.is_prefix.rest) };
    files = k.files ∙ ap (λ (f : Filed). changed f.files k.prefix) h.files ∙ sym (changed-append before.files h.part k.prefix);
    listed = ListsMade-after before.changes mid.changes new.changes h.part k.prefix (ap (λ (f : Filed). f.changes) h.files) k.listed;
  }

  -- what is left ended so
  HasFiled-end : {T : Type 0} (r : Result T FilingFault) → FilesValues left mid new r → FilesValues all before new r
  HasFiled-end (Ok v) k = filed_by left k ∙ ap (λ l. all_changed before l) (sym h.whole)
  HasFiled-end (Err (Missing name)) k = k
  HasFiled-end (Err StoreFailed) k = prefix_filed k
  HasFiled-end (Err FileFailed) k = prefix_filed k
  HasFiled-end (Err Memory) k = prefix_filed k

-- ---- one item, and later ones

module _ (first later : List Change) (now new : Filed) where
  first_prefix : ChangesPrefix first now new → ChangesPrefix (first ++ later) now new
  first_prefix k = record {
    prefix = k.prefix;
    is_prefix = record { rest = k.is_prefix.rest ++ later; whole = ap (λ l. l ++ later) k.is_prefix.whole ∙ append_assoc k.prefix k.is_prefix.rest later };
    files = k.files;
    listed = k.listed;
  }

  first_stopped : (T U : Type 0) (fault : FilingFault) → FilesValues {T = T} first now new (Err fault) → FilesValues {T = U} (first ++ later) now new (Err fault)
  first_stopped T U (Missing name) h = h
  first_stopped T U StoreFailed h = first_prefix h
  first_stopped T U FileFailed h = first_prefix h
  first_stopped T U Memory h = first_prefix h

-- ---- the items

filed-end : (objects : Contents) (names : List ObjectName) (items : List Item) → (length names ≡ 0) ⊎ (length items ≡ 0) → filed objects names items ≡ []
unfolding filed
filed-end objects [] items h = refl
filed-end objects (name ∷ names) [] h = refl
filed-end objects (name ∷ names) (item ∷ items) (inl h) = absurd (omega (arith, h))
filed-end objects (name ∷ names) (item ∷ items) (inr h) = absurd (omega (arith, h))

filed-next : (objects : Contents) (name : ObjectName) (names : List ObjectName) (item : Item) (items : List Item) → filed objects (name ∷ names) (item ∷ items) ≡ item_filed objects name item ++ filed objects names items
unfolding filed
filed-next objects name names item items = refl

-- no item is left
pub filed_all : (objects : Contents) (names : List ObjectName) (items : List Item) (all : List Change) (before now : Filed)
    → HasFiled all (filed objects names items) before now → (length names ≡ 0) ⊎ (length items ≡ 0) → now ≡ all_changed before all
filed_all objects names items all before now h none =
    h.files ∙ ap (λ l. all_changed before l) (sym (h.whole ∙ ap (λ l. h.part ++ l) (filed-end objects names items none) ∙ append-nil h.part))

-- the value of the next item is held, and those after it
pub next_held : (store : Store) (names more_names : List ObjectName) (name : ObjectName) → names ≡ name ∷ more_names → AreHeld store names → IsSome (held store.objects name) × AreHeld store more_names
next_held store names more_names name names_are all = subst (λ (names : List ObjectName). AreHeld store names) names_are all

module _ (old now_store : Store) (same : now_store ≡ old) (names more_names : List ObjectName) (items more_items : List Item) (name : ObjectName) (item : Item)
    (names_are : names ≡ name ∷ more_names) (items_are : items ≡ item ∷ more_items) (all : List Change) (before now new : Filed) (so_far : HasFiled all (filed old.objects names items) before now) where
  abbrev next : List Change
  next = item_filed old.objects name item

  abbrev later : List Change
  later = filed old.objects more_names more_items

  next_item : HasFiled all (next ++ later) before now
  next_item = subst (λ left. HasFiled all left before now) ((λ i. filed old.objects (names_are i) (items_are i)) ∙ filed-next old.objects name more_names item more_items) so_far

  -- one item more is done
  pub filed_more : {T : Type 0} (v : T) (q : Result T FilingFault) → FilesValues (item_filed now_store.objects name item) now new q → q ≡ Ok v → HasFiled all later before new
  filed_more {T = T} v q h is =
      let here : new ≡ all_changed now next = subst (λ (s : Store). FilesValues {T = T} (item_filed s.objects name item) now new (Ok v)) same (rw is at h) in
      HasFiled-more all (next ++ later) before now new next_item later (record { part = next; whole = refl; files = here })

  -- the next item is stopped
  pub filed_stop : {T U : Type 0} (q : Result T FilingFault) (r : Result U FilingFault) (e : FilingFault) → FilesValues (item_filed now_store.objects name item) now new q → q ≡ Err e
      → IsErr r × IsErrAnd r (λ d. d ≡ e) → FilesValues all before new r
  filed_stop q (Ok v) e h was is = absurd is.1
  filed_stop {T = T} {U = U} q (Err d) e h was is =
      let here = subst (λ (s : Store). FilesValues {T = T} (item_filed s.objects name item) now new (Err e)) same (rw was at h) in
      rw is.1 (HasFiled-end all (next ++ later) before now new next_item {T = U} (Err e) (first_stopped next later now new T U e here))

-- ---- counts

-- a cause of what came later is one of all
pub FilingCause-earlier : {T : Type 0} (retries k l m f g h : ℕ) (r : Result T FilingFault) → k ≤ l → f ≤ g → FilingCause retries l m g h r → FilingCause retries k m f h r
FilingCause-earlier retries k l m f g h (Ok v) kl fg c = tt
FilingCause-earlier retries k l m f g h (Err (Missing name)) kl fg c = tt
FilingCause-earlier retries k l m f g h (Err StoreFailed) kl fg c = omega (arith, c, kl)
FilingCause-earlier retries k l m f g h (Err FileFailed) kl fg c = omega (arith, c, fg)
FilingCause-earlier retries k l m f g h (Err Memory) kl fg c = tt

-- what holds while values go to their files
pub record IsFiling {K T : Type 0} (kept_tells files_tell : Type 0) (store : K → Store) (writes : K → List Write) (files : T → Files) (changes : T → List Change) (kept_faults kept_calls : K → ℕ) (file_faults file_calls : T → ℕ) (retries : ℕ)
    (names left_names : List ObjectName) (items left_items : List Item) (keeper_old keeper : K) (tree_old tree : T) : Type 0 where
  pub done : kept_tells → files_tell → HasFiled (filed (store keeper_old).objects names items) (filed (store keeper_old).objects left_names left_items) (filed_in files changes tree_old) (filed_in files changes tree)
  pub held : kept_tells → AreHeld (store keeper_old) left_names
  pub same : kept_tells → store keeper ≡ store keeper_old
  pub list : kept_tells → writes keeper ≡ writes keeper_old
  pub kept_later : kept_faults keeper_old ≤ kept_faults keeper
  pub files_later : file_faults tree_old ≤ file_faults tree
  pub kept_tried : kept_tells → TriesAtMost retries kept_calls kept_faults keeper_old keeper 0
  pub file_tried : files_tell → TriesAtMost retries file_calls file_faults tree_old tree 0
