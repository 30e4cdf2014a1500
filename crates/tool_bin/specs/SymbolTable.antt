-- The table of symbols of an archive in the GNU form.
use Rattle.std.specs.Prelude.{ℕ, List, [], ◌∷◌, ◌++◌, ◌+◌, ◌*◌, ◌-◌, ◌%◌, ◌^◌, min, nat_lt, length, replicate, sum_by, unwrap_or, Bool, Option, Some, None, if◌then◌else◌}
use Rattle.std.specs.List.{list_all, flat_map}
use Rattle.thunk_codec.specs.Job.{encoded_count}
use Rattle.text_lines.specs.Maybe.{◌>>=◌, ◌>>◌, check}
use Rattle.tool_bin.specs.Archive.{ArchiveMember, archive_mark, size_limit}
use Rattle.tool_bin.specs.ObjectReading.{symbol_names}

-- the symbols that a member defines: none where it is no object
abbrev pub symbols_of : ArchiveMember → List (List ℕ)
symbols_of member = unwrap_or (symbol_names member.contents) []

-- a name in the table, with a zero byte at its end
abbrev pub zero_terminated : List ℕ → List ℕ
zero_terminated name = name ++ 0 ∷ []

-- how many bytes of an archive a part of this size takes: its header, its contents and their padding
abbrev pub part_len : ℕ → ℕ
part_len size = 60 + size + size % 2

-- for each symbol the offset of its member, where that of the first member is given
unfoldable pub offsets_from : ℕ → List ArchiveMember → List ℕ
offsets_from offset [] = []
offsets_from offset (member ∷ members) =
    replicate (length (symbols_of member)) offset ++ offsets_from (offset + part_len (length member.contents)) members

-- the offset of the part after some members, where that of the first is given
abbrev pub offset_after : ℕ → List ArchiveMember → ℕ
offset_after offset members = offset + sum_by (λ member. part_len (length member.contents)) members

-- the size of a table of so many symbols, whose names with zero bytes have so many bytes together
abbrev pub table_size : ℕ → ℕ → ℕ
table_size symbols names = 4 + 4 * symbols + names

-- the offset of the first member after a table of this size
abbrev pub first_offset : ℕ → ℕ
first_offset size = length archive_mark + part_len size

-- whether the table can hold a count or an offset
abbrev pub fits_word : ℕ → Bool
fits_word n = nat_lt n (2 ^ 32)

-- a number in the table, if it can hold it
abbrev pub table_word : ℕ → Option ℕ
table_word n = if fits_word n then Some n else None

-- these offsets in the table, if it can hold them
abbrev pub table_words : List ℕ → Option (List ℕ)
table_words offsets = do
  check (list_all fits_word offsets)
  Some (flat_map encoded_count offsets)

-- the table of so many symbols with these offsets and these names with zero bytes, if it can hold them
abbrev pub table_with : ℕ → List ℕ → List ℕ → Option (List ℕ)
table_with symbols offsets names = do
  check (fits_word symbols)
  words ← table_words offsets
  Some (encoded_count symbols ++ (words ++ names))

-- the size of a table, where a part may have it
abbrev pub size_within : ℕ → Option ℕ
size_within size = if nat_lt size size_limit then Some size else None

-- the table of some members, if it can hold their symbols and is a part itself
unfoldable pub table_of : List ArchiveMember → Option (List ℕ)
table_of members =
    let symbols = flat_map symbols_of members in
    let names = flat_map zero_terminated symbols in do
      size ← size_within (table_size (length symbols) (length names))
      table_with (length symbols) (offsets_from (first_offset size) members) names

-- a number, or the greatest of 64 bits where it is greater
abbrev pub capped : ℕ → ℕ
capped n = min n (2 ^ 64 - 1)
