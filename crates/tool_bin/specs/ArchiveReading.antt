-- Reading archives in the GNU form.
use Rattle.std.specs.Prelude.{ℕ, zero, suc, List, [], ◌∷◌, ◌+◌, ◌==◌, nat_le, nat_eq, length, take, drop, position, take_while, Bool, true, false, Option, Some, None, if◌then◌else◌}
use Rattle.std.specs.List.{list_all, starts_with, ends_with}
use Rattle.std.specs.Char.{is_ascii_digit}
use Rattle.object_name.specs.Number.{digits_value}
use Rattle.text_lines.specs.Maybe.{◌>>=◌, ◌>>◌, check}
use Rattle.text_lines.specs.Cuts.{strip_prefix}
use Rattle.tool_bin.specs.Archive.{ArchiveMember, ArchiveContents, archive_mark, header_end, field, padding, table_name, is_member_name}

-- whether a byte is a space
abbrev pub is_space : ℕ → Bool
is_space byte = byte == 32

-- whether a byte is `/`
abbrev pub is_slash : ℕ → Bool
is_slash byte = byte == 47

-- the name in the name field of a member's header: what stands before `/`, with spaces alone after it
unfoldable pub name_in : List ℕ → Option (List ℕ)
name_in bytes = do
  end ← position is_slash bytes
  check (list_all is_space (drop (end + 1) bytes))
  check (is_member_name (take end bytes))
  Some (take end bytes)

-- the size in the size field of a header: at least one digit, with spaces alone after the digits
unfoldable pub size_in : List ℕ → Option ℕ
size_in bytes = let digits = take_while is_ascii_digit bytes in do
  check (nat_le 1 (length digits))
  check (list_all is_space (drop (length digits) bytes))
  Some (digits_value digits)

-- the header at the beginning, and the rest
abbrev pub header_at : List ℕ → Option (List ℕ × List ℕ)
header_at bytes = do
  check (nat_le 60 (length bytes))
  Some (take 60 bytes, drop 60 bytes)

-- the name in a member's header
abbrev pub member_name_of : List ℕ → Option (List ℕ)
member_name_of bytes = name_in (take 16 bytes)

-- the size in a header, whatever its name, time, owner, group and mode
abbrev pub member_size_of : List ℕ → Option ℕ
member_size_of bytes = do
  check (ends_with nat_eq bytes header_end)
  size_in (take 10 (drop 48 bytes))

-- contents of this size, and the bytes after their padding
unfoldable pub contents_at : ℕ → List ℕ → Option (List ℕ × List ℕ)
contents_at size bytes = do
  check (nat_le size (length bytes))
  rest ← strip_prefix (padding size) (drop size bytes)
  Some (take size bytes, rest)

-- the member at the beginning, and the rest
unfoldable pub member_at : List ℕ → Option (ArchiveMember × List ℕ)
member_at bytes = do
  cut ← header_at bytes
  name ← member_name_of cut.0
  size ← member_size_of cut.0
  read ← contents_at size cut.1
  Some (record { name = name; contents = read.0 }, read.1)

-- the bytes after the table at the beginning
unfoldable pub after_table : List ℕ → Option (List ℕ)
after_table bytes = do
  cut ← header_at bytes
  size ← member_size_of cut.0
  read ← contents_at size cut.1
  Some read.1

-- the members that the bytes are, up to their end, if they are at most so many
unfoldable pub members_at : ℕ → List ℕ → Option (List ArchiveMember)
members_at most [] = Some []
members_at zero (byte ∷ bytes) = None
members_at (suc most) (byte ∷ bytes) = do
  first ← member_at (byte ∷ bytes)
  others ← members_at most first.1
  Some (first.0 ∷ others)

-- the members that the bytes are: each has a byte at least, so there are at most as many as bytes
abbrev pub all_members : List ℕ → Option (List ArchiveMember)
all_members bytes = members_at (length bytes) bytes

-- whether the bytes begin as a table of symbols
abbrev pub begins_with_table : List ℕ → Bool
begins_with_table bytes = starts_with nat_eq bytes (field 16 table_name)

-- what an archive holds whose bytes after the mark begin with a table
abbrev pub with_table : List ℕ → Option ArchiveContents
with_table bytes = do
  rest ← after_table bytes
  members ← all_members rest
  Some (record { has_table = true; members = members })

-- what an archive without a table holds, by its bytes after the mark
abbrev pub without_table : List ℕ → Option ArchiveContents
without_table bytes = do
  members ← all_members bytes
  Some (record { has_table = false; members = members })

-- what the archive with these bytes holds, if they are one
unfoldable pub archive_of : List ℕ → Option ArchiveContents
archive_of bytes = do
  body ← strip_prefix archive_mark bytes
  if begins_with_table body then with_table body else without_table body
