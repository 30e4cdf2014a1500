-- What a put on a keeper in memory does to the store that it tells.
use Rattle.std.proofs.Common.{◌≡◌, ℕ, List, ◌++◌, ◌∷◌, [], ap, ◌∙◌}
use Rattle.std.specs.FinMap as map
use Rattle.std.specs.FinMap.{get-insert}
use Rattle.object_name.specs.Name.{ObjectName}
use Rattle.object_name.proofs.PublicLaws.{name_cmp_total}
use Rattle.blob_store.specs.Memory.{ByName, Memory, store_of, called, with_object, with_note}
use Rattle.blob_store.specs.Store.{Store, Contents, put, after_write}
use Rattle.blob_store.specs.Store.Write.{Object, Note}

-- what a finite map has under each name
abbrev contents : ByName → Contents
contents kept = λ name. map.get kept name

-- to insert bytes is to put them
contents-insert : (kept : ByName) (name : ObjectName) (bytes : List ℕ) → contents (map.insert kept name bytes) ≡ put (contents kept) name bytes
contents-insert kept name bytes = λ i other. get-insert name_cmp_total kept name bytes other i

-- after a put of an object the store has that write
pub store_of-with_object : (old new : Memory) (name : ObjectName) (bytes : List ℕ) → new ≡ with_object old name bytes → store_of new ≡ after_write (store_of old) (Object name bytes)
store_of-with_object old new name bytes made =
    ap store_of made ∙ ap (λ (objects : Contents). let store : Store = record { objects = objects; notes = contents old.notes } in store) (contents-insert old.objects name bytes)

-- and so after a put of a note
pub store_of-with_note : (old new : Memory) (name : ObjectName) (bytes : List ℕ) → new ≡ with_note old name bytes → store_of new ≡ after_write (store_of old) (Note name bytes)
store_of-with_note old new name bytes made =
    ap store_of made ∙ ap (λ (notes : Contents). let store : Store = record { objects = contents old.objects; notes = notes } in store) (contents-insert old.notes name bytes)

-- a call that changed nothing leaves the store
pub store_of-called : (old new : Memory) → new ≡ called old → store_of new ≡ store_of old
store_of-called old new same = ap store_of same

-- a put stands last in the list of the puts that were made
pub writes-with_object : (old new : Memory) (name : ObjectName) (bytes : List ℕ) → new ≡ with_object old name bytes → new.writes ≡ old.writes ++ Object name bytes ∷ []
writes-with_object old new name bytes made = ap (λ (m : Memory). m.writes) made

pub writes-with_note : (old new : Memory) (name : ObjectName) (bytes : List ℕ) → new ≡ with_note old name bytes → new.writes ≡ old.writes ++ Note name bytes ∷ []
writes-with_note old new name bytes made = ap (λ (m : Memory). m.writes) made

-- a call that changed nothing leaves the list
pub writes-called : (old new : Memory) → new ≡ called old → new.writes ≡ old.writes
writes-called old new same = ap (λ (m : Memory). m.writes) same
