-- What an evaluation keeps, where the thunks that it meets are those of a ledger.
use Rattle.std.proofs.Common.{◌≡◌, ◌≤◌, ◌⊎◌, inl, inr, ℕ, Bool, true, false, cond, List, [], ◌∷◌, Option, Some, None, length, refl, sym, ap, ◌∙◌, arith}
use Rattle.std.specs.Prelude.{is_some, option_and_then, bytes_eq}
use Rattle.std.specs.Ordering.{eq_by_cmp}
use Rattle.std.proofs.lemmas.Option.{same_Some}
use Rattle.std.proofs.lemmas.Slice.Eq.{bytes_eq-Decides}
use Rattle.object_name.specs.Name.{ObjectName, name_of, name_cmp}
use Rattle.thunk_codec.specs.declared.job.Job.{Job}
use Rattle.thunk_codec.specs.declared.job.Outcome.{Outcome}
use Rattle.blob_store.specs.Store.{Contents, Store, held, put, after_write, written, storing, own_write, other_held}
use Rattle.blob_store.proofs.PublicLaws.{held-put-own, held-put-other}
use Rattle.object_name.proofs.PublicLaws.{eq_by_cmp-name, eq_by_cmp-other}
use Rattle.reduction_cache.specs.Note.{NoteOf, note_text}
use Rattle.reduction_cache.specs.Reading.{note_of}
use Rattle.reduction_cache.specs.Hit.{note_write}
use Rattle.build_law.proofs.Ledger.{Entry, Among, NoteTrue, Fair, resolved_name, left, unmarked}

abbrev pub Reduced : Type 0
Reduced = ObjectName → Option (List ObjectName)

abbrev pub HoldsAll : Contents → Contents → Type 0
HoldsAll old now = (name : ObjectName) (bytes : List ℕ) → held old name ≡ Some bytes → held now name ≡ Some bytes

abbrev pub More : Reduced → Reduced → Type 0
More old now = (name : ObjectName) → is_some (old name) ≡ true → is_some (now name) ≡ true

-- ---- a store with one object more

-- other bytes aren't held under the name
abbrev pub Free : Store → List ℕ → Type 0
Free store bytes = (found : List ℕ) → held store.objects (name_of bytes) ≡ Some found → found ≡ bytes

pub record Stores (store : Store) (bytes : List ℕ) : Type 0 where
  pub none : other_held store bytes ≡ None
  pub there : held (written store (storing store bytes)).objects (name_of bytes) ≡ Some bytes
  pub holds : HoldsAll store.objects (written store (storing store bytes)).objects
  pub notes : (written store (storing store bytes)).notes ≡ store.notes
  pub others : (name : ObjectName) → (name ≡ name_of bytes → ⊥) → held (written store (storing store bytes)).objects name ≡ held store.objects name

pub same-name : (a b : ObjectName) → (a ≡ b) ⊎ (a ≡ b → ⊥)
same-name a b = by (eq_by_cmp name_cmp a b) refl
  where
    by : (test : Bool) → eq_by_cmp name_cmp a b ≡ test → (a ≡ b) ⊎ (a ≡ b → ⊥)
    by true is = inl ((eq_by_cmp-name a b).0 is)
    by false is = inr (λ e. cc (sym is ∙ (eq_by_cmp-name a b).1 e))

stores_by : (store : Store) (bytes : List ℕ) (found : Option (List ℕ)) → held store.objects (name_of bytes) ≡ found → Free store bytes → Stores store bytes
stores_by store bytes None is free =
    let one : storing store bytes ≡ own_write bytes ∷ [] = ap (λ (o : Option (List ℕ)). cond (is_some o) [] (own_write bytes ∷ [])) is in
    record {
      none = ap (λ o. option_and_then (λ found. cond (bytes_eq found bytes) None (Some found)) o) is;
      there = ap (λ writes. held (written store writes).objects (name_of bytes)) one ∙ held-put-own store.objects bytes;
      holds = λ name other was.
          ap (λ writes. held (written store writes).objects name) one
          ∙ held-put-other store.objects (name_of bytes) bytes name (λ e. cc (sym was ∙ ap (held store.objects) e ∙ is)) ∙ was;
      notes = ap (λ writes. (written store writes).notes) one;
      others = λ name differ. ap (λ writes. held (written store writes).objects name) one ∙ held-put-other store.objects (name_of bytes) bytes name differ;
    }
stores_by store bytes (Some found) is free =
    let none : storing store bytes ≡ [] = ap (λ (o : Option (List ℕ)). cond (is_some o) [] (own_write bytes ∷ [])) is in
    let same : found ≡ bytes = free found is in
    record {
      none = ap (λ o. option_and_then (λ found. cond (bytes_eq found bytes) None (Some found)) o) is
          ∙ ap (λ test. cond test None (Some found)) ((bytes_eq-Decides found bytes).1 same);
      there = ap (λ writes. held (written store writes).objects (name_of bytes)) none ∙ is ∙ ap (λ b. Some b) same;
      holds = λ name other was. ap (λ writes. held (written store writes).objects name) none ∙ was;
      notes = ap (λ writes. (written store writes).notes) none;
      others = λ name differ. ap (λ writes. held (written store writes).objects name) none;
    }

pub stores : (store : Store) (bytes : List ℕ) → Free store bytes → Stores store bytes
stores store bytes free = stores_by store bytes (held store.objects (name_of bytes)) refl free

-- ---- what is kept

pub record Good (objects : Contents) (L : List Entry) (store : Store) (reduced : Reduced) : Type 0 where
  pub holds : HoldsAll objects store.objects
  pub known : (e : Entry) → Among e L → (outs : List ObjectName) → reduced e.name ≡ Some outs → (outs ≡ name_of e.value ∷ []) × (held store.objects (name_of e.value) ≡ Some e.value)
  pub notes : (e : Entry) → Among e L → NoteTrue store e
  pub free : (e : Entry) → Among e L → Free store e.value

module _ (objects : Contents) (L : List Entry) (fair : Fair L) where
  -- a value is stored
  pub good-value : (store : Store) (reduced : Reduced) (e : Entry) → Among e L → Good objects L store reduced → Good objects L (written store (storing store e.value)) reduced
  good-value store reduced e among good =
      let s = stores store e.value (good.free e among) in
      record {
        holds = λ name bytes was. s.holds name bytes (good.holds name bytes was);
        known = λ other in_it outs is. let k = good.known other in_it outs is in (k.0, s.holds (name_of other.value) other.value k.1);
        notes = λ other in_it bytes note there. good.notes other in_it bytes note (ap (λ notes. notes (resolved_name other.job)) (sym s.notes) ∙ there);
        free = λ other in_it found is. free_by other in_it found is (same-name (name_of other.value) (name_of e.value));
      }
    where
      free_by : (other : Entry) → Among other L → (found : List ℕ) → held (written store (storing store e.value)).objects (name_of other.value) ≡ Some found →
          ((name_of other.value ≡ name_of e.value) ⊎ (name_of other.value ≡ name_of e.value → ⊥)) → found ≡ other.value
      free_by other in_it found is (inl same) =
          let s = stores store e.value (good.free e among) in
          let value : other.value ≡ e.value = fair.one_value other e in_it among same in
          same_Some found e.value (sym is ∙ ap (held (written store (storing store e.value)).objects) same ∙ s.there) ∙ sym value
      free_by other in_it found is (inr differ) =
          let s = stores store e.value (good.free e among) in
          good.free other in_it found (sym (s.others (name_of other.value) differ) ∙ is)

  -- its note is kept
  pub good-note : (outcome : Job → Outcome) (store : Store) (reduced : Reduced) (e : Entry) → Among e L →
      (note_of (note_text (record { resolved = resolved_name e.job; outputs = name_of e.value ∷ [] })) ≡ Some (record { resolved = resolved_name e.job; outputs = name_of e.value ∷ [] })) →
      ((a b : Entry) → Among a L → Among b L → a.job ≡ b.job → a.value ≡ b.value) →
      Good objects L store reduced → Good objects L (after_write store (note_write (resolved_name e.job) (name_of e.value ∷ []))) reduced
  good-note outcome store reduced e among reads one good =
      record {
        holds = good.holds;
        known = good.known;
        notes = λ other in_it bytes note there. note_by other in_it bytes note (same-name (resolved_name other.job) (resolved_name e.job)) there;
        free = good.free;
      }
    where
      own : NoteOf
      own = record { resolved = resolved_name e.job; outputs = name_of e.value ∷ [] }

      note_by : (other : Entry) → Among other L → (bytes : List ℕ) (note : NoteOf) → ((resolved_name other.job ≡ resolved_name e.job) ⊎ (resolved_name other.job ≡ resolved_name e.job → ⊥)) →
          put store.notes (resolved_name e.job) (note_text own) (resolved_name other.job) ≡ Some bytes → note_of bytes ≡ Some note →
          note.resolved ≡ resolved_name other.job → length note.outputs ≡ 1 → note.outputs ≡ name_of other.value ∷ []
      note_by other in_it bytes note (inl same) there read named number =
          let text : note_text own ≡ bytes = same_Some (note_text own) bytes (sym (ap (λ test. cond test (Some (note_text own)) (store.notes (resolved_name other.job))) ((eq_by_cmp-name (resolved_name other.job) (resolved_name e.job)).1 same)) ∙ there) in
          let is : own ≡ note = same_Some own note (sym reads ∙ ap note_of text ∙ read) in
          let value : e.value ≡ other.value = one e other among in_it (fair.one_job e other among in_it (sym same)) in
          sym (ap (λ (n : NoteOf). n.outputs) is) ∙ ap (λ b. name_of b ∷ []) value
      note_by other in_it bytes note (inr differ) there read named number =
          good.notes other in_it bytes note
          (sym (ap (λ test. cond test (Some (note_text own)) (store.notes (resolved_name other.job))) (eq_by_cmp-other (resolved_name other.job) (resolved_name e.job) differ)) ∙ there)
          read named number

-- one thunk more is reduced
abbrev pub marked : ObjectName → List ObjectName → Reduced → Reduced
marked name outs reduced = λ other. cond (eq_by_cmp name_cmp name other) (Some outs) (reduced other)

pub more-marked : (name : ObjectName) (outs : List ObjectName) (reduced : Reduced) → More reduced (marked name outs reduced)
more-marked name outs reduced other was = by (eq_by_cmp name_cmp name other)
  where
    by : (test : Bool) → is_some (cond test (Some outs) (reduced other)) ≡ true
    by true = refl
    by false = was

-- less is left
pub left-more : (old now : Reduced) (L : List Entry) → More old now → left now L ≤ left old L
left-more old now [] more = omega arith
left-more old now (e ∷ L) more =
    let rest = left-more old now L more in
    let one = by (is_some (old e.name)) (is_some (now e.name)) (more e.name) in
    omega (arith, rest, one)
  where
    by : (before after : Bool) → (before ≡ true → after ≡ true) → unmarked after ≤ unmarked before
    by true true h = omega arith
    by true false h = absurd (cc (h refl))
    by false true h = omega arith
    by false false h = omega arith
