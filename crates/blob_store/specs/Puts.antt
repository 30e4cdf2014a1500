-- The puts that a keeper in memory records, as writes.
use Rattle.object_name.specs.Name.{ObjectName}
use Rattle.blob_store.specs.declared.puts.Put.{Put}
use Rattle.blob_store.specs.declared.puts.Put.TheVariants as puts
use Rattle.blob_store.specs.Store.{Write, Object, Note}

-- the write of a put
abbrev pub write_of : Put → Write
write_of (puts.Object name bytes) = Object name bytes
write_of (puts.Note name bytes) = Note name bytes

-- the name under which a write puts its bytes
abbrev pub write_name : Write → ObjectName
write_name (Object name bytes) = name
write_name (Note name bytes) = name
