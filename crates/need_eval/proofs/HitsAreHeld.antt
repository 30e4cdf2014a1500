-- What a hit shows: its note, and that the note's outputs are held.
use Rattle.std.proofs.Common.{◌≡◌, ℕ, true, List, [], ◌∷◌, Option, Some, None, length, refl, sym, ap, subst, ◌∙◌}
use Rattle.std.specs.Prelude.{is_some, ◌&&◌, eqb}
use Rattle.std.specs.List.{AllByRecursion, list_all}
use Rattle.std.specs.Ordering.{eq_by_cmp}
use Rattle.std.proofs.lemmas.Option.{same_Some}
use Rattle.std.proofs.lemmas.Bool.{eqb-true, eq-eqb}
use Rattle.text_lines.specs.Maybe.{bind_some, test_some, ◌>>=◌, ◌>>◌}
use Rattle.object_name.specs.Name.{ObjectName, IsName, name_cmp}
use Rattle.object_name.proofs.PublicLaws.{eq_by_cmp-name}
use Rattle.blob_store.specs.Store.{Store, held}
use Rattle.reduction_cache.specs.Note.{NoteOf}
use Rattle.reduction_cache.specs.Reading.{note_of}
use Rattle.reduction_cache.specs.Hit.{hit_of, is_held}
use Rattle.need_eval.specs.MetObjects.{AreHeld}
use Rattle.reduction_cache.proofs.PublicLaws.{note_of-text}
use Rattle.need_eval.proofs.HeldStays.{is_some-from}

pub record Hits (store : Store) (name : ObjectName) (count : ℕ) (outs : List ObjectName) : Type 0 where
  pub bytes : List ℕ
  pub note : NoteOf
  pub there : store.notes name ≡ Some bytes
  pub read : note_of bytes ≡ Some note
  pub named : note.resolved ≡ name
  pub number : length note.outputs ≡ count
  pub held : list_all (is_held store) note.outputs ≡ true
  pub outputs : note.outputs ≡ outs

pub hits : (store : Store) (name : ObjectName) (count : ℕ) (outs : List ObjectName) → hit_of store name count ≡ Some outs → Hits store name count outs
unfolding hit_of
hits store name count outs is =
    let a = bind_some (store.notes name) _ outs is in
    let b = bind_some (note_of a.0) _ outs a.2 in
    let c = test_some (eq_by_cmp name_cmp b.0.resolved name) _ outs b.2 in
    let d = test_some (eqb (length b.0.outputs) count) _ outs c.1 in
    let e = test_some (list_all (is_held store) b.0.outputs) (Some b.0.outputs) outs d.1 in
    record {
      bytes = a.0;
      note = b.0;
      there = a.1;
      read = b.1;
      named = (eq_by_cmp-name b.0.resolved name).0 c.0;
      number = eqb-true (length b.0.outputs) count d.0;
      held = e.0;
      outputs = same_Some b.0.outputs outs e.1;
    }

-- names that pass the test are held
pub held-from_test : (store : Store) (names : List ObjectName) → list_all (is_held store) names ≡ true → AreHeld store names
held-from_test store [] is = tt
held-from_test store (name ∷ names) is = by (held-from_test store names) (held store.objects name) refl is
  where
    by : (list_all (is_held store) names ≡ true → AreHeld store names) → (o : Option (List ℕ)) → held store.objects name ≡ o → (is_some o && list_all (is_held store) names) ≡ true → AreHeld store (name ∷ names)
    by rest None none is = absurd (cc is)
    by rest (Some bytes) some is = (is_some-from (held store.objects name) bytes some, rest is)

-- and those that are held pass it
held-test : (store : Store) (names : List ObjectName) → AreHeld store names → list_all (is_held store) names ≡ true
held-test store [] h = refl
held-test store (name ∷ names) h = ap (λ test. test && list_all (is_held store) names) h.0 ∙ held-test store names h.1

pub hit-held : (store : Store) (name : ObjectName) (count : ℕ) (outs : List ObjectName) → hit_of store name count ≡ Some outs → AreHeld store outs
hit-held store name count outs is =
    let h = hits store name count outs is in subst (AreHeld store) h.outputs (held-from_test store h.note.outputs h.held)

-- and they are names
pub hit-names : (store : Store) (name : ObjectName) (count : ℕ) (outs : List ObjectName) → hit_of store name count ≡ Some outs → AllByRecursion IsName outs
hit-names store name count outs is =
    let h = hits store name count outs is in subst (AllByRecursion IsName) h.outputs (note_of-text h.bytes h.note h.read).rules.outputs

-- a hit in one store is one in another with the same note, where its outputs are held there
pub hit-same : (old now : Store) (name : ObjectName) (count : ℕ) (outs : List ObjectName) → hit_of old name count ≡ Some outs → now.notes name ≡ old.notes name → (AreHeld old outs → AreHeld now outs) → hit_of now name count ≡ Some outs
unfolding hit_of
hit-same old now name count outs is same more =
    let h = hits old name count outs is in
    let note = h.note in
    let known : NoteOf → Option (List ObjectName) = λ note. eq_by_cmp name_cmp note.resolved name >> (eqb (length note.outputs) count >> (list_all (is_held now) note.outputs >> Some note.outputs)) in
    let there : AreHeld now note.outputs = subst (AreHeld now) (sym h.outputs) (more (subst (AreHeld old) h.outputs (held-from_test old note.outputs h.held))) in
    ap (λ n. n >>= λ bytes. note_of bytes >>= known) (same ∙ h.there)
    ∙ ap (λ n. n >>= known) h.read
    ∙ ap (λ test. test >> (eqb (length note.outputs) count >> (list_all (is_held now) note.outputs >> Some note.outputs))) ((eq_by_cmp-name note.resolved name).1 h.named)
    ∙ ap (λ test. test >> (list_all (is_held now) note.outputs >> Some note.outputs)) (eq-eqb (length note.outputs) count h.number)
    ∙ ap (λ test. test >> Some note.outputs) (held-test now note.outputs there)
    ∙ ap (λ outs. Some outs) h.outputs
