-- A store: two maps from names to bytes, one of objects and one of notes.
use Rattle.std.specs.Prelude.{ℕ, List, [], ◌∷◌, Option, Some, None, is_some, bytes_eq, option_and_then, if◌then◌else◌}
use Rattle.std.specs.Ordering.{eq_by_cmp}
use Rattle.object_name.specs.Name.{ObjectName, name_of, name_cmp}

-- a map, by what it has under each name
abbrev pub Contents : Type 0
Contents = ObjectName → Option (List ℕ)

-- what lies in a store: its objects and its notes
pub record Store : Type 0 where
  pub objects : Contents
  pub notes : Contents

-- the map with these bytes under a name, in place of what was there
abbrev pub put : Contents → ObjectName → List ℕ → Contents
put contents name bytes = λ other. if eq_by_cmp name_cmp other name then Some bytes else contents other

-- the bytes, where they have that name
abbrev pub if_named : ObjectName → List ℕ → Option (List ℕ)
if_named name bytes = if eq_by_cmp name_cmp (name_of bytes) name then Some bytes else None

-- the object of that name: other bytes under it count as nothing
abbrev pub held : Contents → ObjectName → Option (List ℕ)
held contents name = option_and_then (if_named name) (contents name)

-- a write to a store: an object or a note, under a name
pub data Write : Type 0 where
  Object : ObjectName → List ℕ → Write
  Note : ObjectName → List ℕ → Write

-- the store after one write
abbrev pub after_write : Store → Write → Store
after_write store (Object name bytes) = record { objects = put store.objects name bytes; notes = store.notes }
after_write store (Note name bytes) = record { objects = store.objects; notes = put store.notes name bytes }

-- the store after some writes, the first of them first
abbrev pub written : Store → List Write → Store
written store [] = store
written store (write ∷ writes) = written (after_write store write) writes

-- the write that puts these bytes under their name
abbrev pub own_write : List ℕ → Write
own_write bytes = Object (name_of bytes) bytes

-- the other bytes that are held under the name of these
abbrev pub other_held : Store → List ℕ → Option (List ℕ)
other_held store bytes = option_and_then (λ found. if bytes_eq found bytes then None else Some found) (held store.objects (name_of bytes))

-- the writes that make these bytes held: none where an object of their name is held already
abbrev pub storing : Store → List ℕ → List Write
storing store bytes = if is_some (held store.objects (name_of bytes)) then [] else own_write bytes ∷ []
