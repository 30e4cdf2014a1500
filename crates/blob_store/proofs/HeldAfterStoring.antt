-- What is held after bytes are stored.
use Rattle.std.proofs.Common.{◌≡◌, ℕ, true, false, cond, List, [], ◌∷◌, ◌++◌, Option, Some, None, refl, sym, ap, ◌∙◌}
use Rattle.std.specs.Prelude.{bytes_eq, option_and_then, is_some}
use Rattle.std.proofs.lemmas.Slice.Eq.{bytes_eq-Decides}
use Rattle.object_name.specs.Name.{ObjectName, name_of}
use Rattle.blob_store.specs.Store.{Store, Write, held, after_write, written, own_write, other_held, storing}
use Rattle.blob_store.proofs.HeldAfterPut.{held-put-own, held-put-other}

-- the writes of two lists are those of the first, then those of the second
pub written-append : (store : Store) (first second : List Write) → written store (first ++ second) ≡ written (written store first) second
written-append store [] second = refl
written-append store (write ∷ first) second = written-append (after_write store write) first second

-- bytes that are not other than these are these
equal_found : (found bytes : List ℕ) → cond (bytes_eq found bytes) None (Some found) ≡ None → found ≡ bytes
equal_found found bytes none =
    (bytes_eq-Decides found bytes).0
    (elim (bytes_eq found bytes) as (λ b. cond b None (Some found) ≡ None → b ≡ true) [ true ↦ λ e. refl | false ↦ λ e. cc e ] none)

-- where nothing of their name is held, storing writes the object
pub storing-new : (store : Store) (bytes : List ℕ) → held store.objects (name_of bytes) ≡ None → written store (storing store bytes) ≡ after_write store (own_write bytes)
storing-new store bytes none = ap (λ (o : Option (List ℕ)). written store (cond (is_some o) [] (own_write bytes ∷ []))) none

-- where an object of their name is held, it writes nothing
pub storing-held : (store : Store) (bytes found : List ℕ) → held store.objects (name_of bytes) ≡ Some found → written store (storing store bytes) ≡ store
storing-held store bytes found some = ap (λ (o : Option (List ℕ)). written store (cond (is_some o) [] (own_write bytes ∷ []))) some

-- where no other bytes are held under their name, they are held after storing
pub held-storing-own : (store : Store) (bytes : List ℕ) → other_held store bytes ≡ None → held (written store (storing store bytes)).objects (name_of bytes) ≡ Some bytes
held-storing-own store bytes no_other =
    elim (held store.objects (name_of bytes)) as (λ o. held store.objects (name_of bytes) ≡ o → held (written store (storing store bytes)).objects (name_of bytes) ≡ Some bytes) [
      | None ↦ λ none. ap (λ (s : Store). held s.objects (name_of bytes)) (storing-new store bytes none) ∙ held-put-own store.objects bytes
      | Some found ↦ λ some.
          ap (λ (s : Store). held s.objects (name_of bytes)) (storing-held store bytes found some) ∙ some
          ∙ ap Some (equal_found found bytes (ap (option_and_then (λ (f : List ℕ). cond (bytes_eq f bytes) None (Some f))) (sym some) ∙ no_other))
    ] refl

-- what was held stays held: storing displaces nothing
pub held-storing : (store : Store) (bytes : List ℕ) (name : ObjectName) (kept : List ℕ) → held store.objects name ≡ Some kept → held (written store (storing store bytes)).objects name ≡ Some kept
held-storing store bytes name kept was =
    elim (held store.objects (name_of bytes)) as (λ o. held store.objects (name_of bytes) ≡ o → held (written store (storing store bytes)).objects name ≡ Some kept) [
      | None ↦ λ none.
          let differ : name ≡ name_of bytes → ⊥ = λ e. cc (sym was ∙ ap (held store.objects) e ∙ none) in
          ap (λ (s : Store). held s.objects name) (storing-new store bytes none) ∙ held-put-other store.objects (name_of bytes) bytes name differ ∙ was
      | Some found ↦ λ some. ap (λ (s : Store). held s.objects name) (storing-held store bytes found some) ∙ was
    ] refl

-- storing leaves the notes
pub notes-storing : (store : Store) (bytes : List ℕ) → (written store (storing store bytes)).notes ≡ store.notes
notes-storing store bytes =
    elim (held store.objects (name_of bytes)) as (λ o. held store.objects (name_of bytes) ≡ o → (written store (storing store bytes)).notes ≡ store.notes) [
      | None ↦ λ none. ap (λ (s : Store). s.notes) (storing-new store bytes none)
      | Some found ↦ λ some. ap (λ (s : Store). s.notes) (storing-held store bytes found some)
    ] refl
