-- A keeper in memory: its two finite maps, the calls on it and the puts that were made.
use Rattle.std.specs.Prelude.{◌≡◌, ℕ, Bool, true, false, List, ◌∷◌, [], ◌++◌, if◌then◌else◌, refl}
use Rattle.std.specs.Coded.{Coded, code_by, coded×, coded_bool, coded_list, coded_ℕ}
use Rattle.std.specs.FinMap as map
use Rattle.object_name.specs.Name.{ObjectName, name_cmp}
use Rattle.object_name.specs.NameCode.{name_code}
use Rattle.object_name.specs.Calls.{CallList, after_call, calls_code}
use Rattle.blob_store.specs.Store.{Store, Write, Object, Note}

-- some bytes by their names
abbrev pub ByName : Type 0
ByName = map.FinMap name_cmp (List ℕ)

-- how such a map is stored
abbrev pub by_name_code : Coded ByName
by_name_code = map.code name_code (coded_list coded_ℕ)

-- a write by whether it is of an object, its name and its bytes
abbrev pub Parts : Type 0
Parts = Bool × (ObjectName × List ℕ)

abbrev pub parts_of : Write → Parts
parts_of (Object name bytes) = (true, (name, bytes))
parts_of (Note name bytes) = (false, (name, bytes))

abbrev pub of_parts : Parts → Write
of_parts p = if p.0 then Object p.1.0 p.1.1 else Note p.1.0 p.1.1

abbrev pub of_parts-parts_of : (write : Write) → of_parts (parts_of write) ≡ write
of_parts-parts_of (Object name bytes) = refl
of_parts-parts_of (Note name bytes) = refl

-- how a write is stored
abbrev pub write_code : Coded Write
write_code = code_by Parts (coded× coded_bool (coded× name_code (coded_list coded_ℕ))) parts_of of_parts of_parts-parts_of

-- what a keeper in memory holds, the calls on it so far, and the puts that were made, the first of them first
pub record Memory : Type 0 where
  pub objects : ByName
  pub notes : ByName
  pub calls : CallList
  pub writes : List Write

-- the store that it tells
abbrev pub store_of : Memory → Store
store_of memory = record { objects = λ name. map.get memory.objects name; notes = λ name. map.get memory.notes name }

-- after a call that changed nothing
abbrev pub called : Memory → Memory
called memory = record { objects = memory.objects; notes = memory.notes; calls = after_call memory.calls; writes = memory.writes }

-- after a put of an object
abbrev pub with_object : Memory → ObjectName → List ℕ → Memory
with_object memory name bytes = record {
  objects = map.insert memory.objects name bytes;
  notes = memory.notes;
  calls = after_call memory.calls;
  writes = memory.writes ++ Object name bytes ∷ [];
}

-- after a put of a note
abbrev pub with_note : Memory → ObjectName → List ℕ → Memory
with_note memory name bytes = record {
  objects = memory.objects;
  notes = map.insert memory.notes name bytes;
  calls = after_call memory.calls;
  writes = memory.writes ++ Note name bytes ∷ [];
}

-- how a keeper in memory is stored
abbrev pub memory_code : Coded Memory
memory_code =
    code_by (ByName × (ByName × (CallList × List Write))) (coded× by_name_code (coded× by_name_code (coded× calls_code (coded_list write_code))))
    (λ m. (m.objects, (m.notes, (m.calls, m.writes)))) (λ p. record { objects = p.0; notes = p.1.0; calls = p.1.1.0; writes = p.1.1.1 }) (λ _. refl)
