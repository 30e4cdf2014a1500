-- What holds while names are looked up one after another.
use Rattle.std.proofs.Common.{◌≡◌, ◌≤◌, ◌+◌, ◌*◌, ℕ, Bool, true, false, eqb, List, length, Option, Some, None, refl, sym, ap, ◌∙◌}
use Rattle.std.specs.List.{list_all}
use Rattle.std.specs.Option.{option_map}
use Rattle.std.specs.Ordering.{eq_by_cmp}
use Rattle.std.proofs.lemmas.Bool.{eq-eqb, ne_eqb}
use Rattle.object_name.specs.Name.{ObjectName, name_cmp}
use Rattle.text_lines.specs.Maybe.{◌>>=◌, ◌>>◌}
use Rattle.blob_store.specs.Store.{Write, Store}
use Rattle.object_name.proofs.PublicLaws.{eq_by_cmp-name, eq_by_cmp-other}
use Rattle.object_name.specs.Causes.{TriesAtMost}
use Rattle.reduction_cache.specs.Hit.{hit_of, is_held}
use Rattle.reduction_cache.specs.Note.{NoteOf}
use Rattle.reduction_cache.specs.Reading.{note_of}
use Rattle.reduction_cache.proofs.FoundNotes.{note_from}

-- the store is as it was, the count has risen by no more than n for each call, and the names so far are held
pub record IsLooking {K : Type 0} (tells : Type 0) (store : K → Store) (writes : K → List Write) (faults calls : K → ℕ) (old now : K) (n count : ℕ) (names : List ObjectName) : Type 0 where
  pub same : tells → store now ≡ store old
  pub list : tells → writes now ≡ writes old
  pub later : faults old ≤ faults now
  pub most : faults now ≤ faults old + count * n
  pub tries : tells → TriesAtMost n calls faults old now 0
  pub held : tells → list_all (is_held (store old)) names ≡ true

-- ---- what a store knows, by what stands under the name among its notes

-- no bytes
pub hit_nothing : (store : Store) (resolved : ObjectName) (count : ℕ) (found : Option (List ℕ)) → found ≡ store.notes resolved → found ≡ None → None ≡ hit_of store resolved count
unfolding hit_of
hit_nothing store resolved count found there is = let none : store.notes resolved ≡ None = sym there ∙ is in rw none refl

-- what was read under the name: bytes, and from them what a note says, if they are one
pub record IsRead (store : Store) (resolved : ObjectName) (found : Option (List ℕ)) (bytes text : List ℕ) (read : Option (ObjectName × List ObjectName)) : Type 0 where
  pub there : found ≡ store.notes resolved
  pub some : found ≡ Some bytes
  pub whole : text ≡ bytes
  pub note : option_map note_from read ≡ note_of text

-- what a store knows by a note
abbrev pub known_by : Store → ObjectName → ℕ → NoteOf → Option (List ObjectName)
known_by store resolved count note =
    eq_by_cmp name_cmp note.resolved resolved >> (eqb (length note.outputs) count >> (list_all (is_held store) note.outputs >> Some note.outputs))

hit_read : (store : Store) (resolved : ObjectName) (count : ℕ) (found : Option (List ℕ)) (bytes text : List ℕ) (read : Option (ObjectName × List ObjectName)) → IsRead store resolved found bytes text read
    → (option_map note_from read >>= known_by store resolved count) ≡ hit_of store resolved count
unfolding hit_of
hit_read store resolved count found bytes text read h =
    let there : store.notes resolved ≡ Some bytes = sym h.there ∙ h.some in
    let note : note_of bytes ≡ option_map note_from read = ap note_of (sym h.whole) ∙ sym h.note in
    rw (there, note) refl

-- bytes that are no note
pub hit_unread : (store : Store) (resolved : ObjectName) (count : ℕ) (found : Option (List ℕ)) (bytes text : List ℕ) (read : Option (ObjectName × List ObjectName)) → IsRead store resolved found bytes text read
    → read ≡ None → None ≡ hit_of store resolved count
hit_unread store resolved count found bytes text read h none =
    sym (ap (λ (o : Option (ObjectName × List ObjectName)). option_map note_from o >>= known_by store resolved count) none) ∙ hit_read store resolved count found bytes text read h

hit_noted : (store : Store) (resolved : ObjectName) (count : ℕ) (found : Option (List ℕ)) (bytes text : List ℕ) (read : Option (ObjectName × List ObjectName)) (note : ObjectName × List ObjectName)
    → IsRead store resolved found bytes text read → read ≡ Some note → known_by store resolved count (note_from note) ≡ hit_of store resolved count
hit_noted store resolved count found bytes text read note h some =
    sym (ap (λ (o : Option (ObjectName × List ObjectName)). option_map note_from o >>= known_by store resolved count) some) ∙ hit_read store resolved count found bytes text read h

-- the note of another thunk
pub hit_other : (store : Store) (resolved : ObjectName) (count : ℕ) (found : Option (List ℕ)) (bytes text : List ℕ) (read : Option (ObjectName × List ObjectName)) (note : ObjectName × List ObjectName)
    → IsRead store resolved found bytes text read → read ≡ Some note → (note.0 ≡ resolved → ⊥) → None ≡ hit_of store resolved count
hit_other store resolved count found bytes text read note h some other =
    let test : eq_by_cmp name_cmp note.0 resolved ≡ false = eq_by_cmp-other note.0 resolved other in
    sym (sym (hit_noted store resolved count found bytes text read note h some) ∙ rw test refl)

-- a note with another number of outputs
pub hit_uncounted : (store : Store) (resolved : ObjectName) (count : ℕ) (found : Option (List ℕ)) (bytes text : List ℕ) (read : Option (ObjectName × List ObjectName)) (note : ObjectName × List ObjectName)
    → IsRead store resolved found bytes text read → read ≡ Some note → note.0 ≡ resolved → (length note.1 ≡ count → ⊥) → None ≡ hit_of store resolved count
hit_uncounted store resolved count found bytes text read note h some own other =
    let test : eq_by_cmp name_cmp note.0 resolved ≡ true = (eq_by_cmp-name note.0 resolved).1 own in
    let counted : eqb (length note.1) count ≡ false = ne_eqb (length note.1) count other in
    sym (sym (hit_noted store resolved count found bytes text read note h some) ∙ rw (test, counted) refl)

-- a note for the thunk with so many outputs, by whether they are held
pub hit_held : (store : Store) (resolved : ObjectName) (count : ℕ) (found : Option (List ℕ)) (bytes text : List ℕ) (read : Option (ObjectName × List ObjectName)) (note : ObjectName × List ObjectName)
    → IsRead store resolved found bytes text read → read ≡ Some note → note.0 ≡ resolved → length note.1 ≡ count
    → (now : Store) (names : List ObjectName) (answer held : Bool) → now ≡ store → names ≡ note.1 → answer ≡ list_all (is_held now) names → answer ≡ held
    → (held >> Some note.1) ≡ hit_of store resolved count
hit_held store resolved count found bytes text read note h some own same now names answer held before these all is =
    let test : eq_by_cmp name_cmp note.0 resolved ≡ true = (eq_by_cmp-name note.0 resolved).1 own in
    let counted : eqb (length note.1) count ≡ true = eq-eqb (length note.1) count same in
    let told : list_all (is_held store) note.1 ≡ held =
    sym (all ∙ ap (λ (s : Store). list_all (is_held s) names) before ∙ ap (list_all (is_held store)) these) ∙ is in
    ap (λ (b : Bool). b >> Some note.1) (sym told) ∙ sym (sym (hit_noted store resolved count found bytes text read note h some) ∙ rw (test, counted) refl)
