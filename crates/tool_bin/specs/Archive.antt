-- Archives in the GNU form, as they are written.
use Rattle.std.specs.Prelude.{ℕ, List, [], ◌∷◌, ◌++◌, ◌-◌, ◌%◌, ◌==◌, ◌&&◌, nat_le, nat_lt, not, length, replicate, decimal, codes, Bool, Option, Some, None, if◌then◌else◌}
use Rattle.std.specs.List.{list_all, flat_map}

-- a member: its name and its contents
pub record ArchiveMember : Type 0 where
  pub name : List ℕ
  pub contents : List ℕ

-- what an archive holds: whether it has a table of symbols, and the members in order
pub record ArchiveContents : Type 0 where
  pub has_table : Bool
  pub members : List ArchiveMember

-- what every archive begins with
abbrev pub archive_mark : List ℕ
archive_mark = codes "!<arch>" ++ 10 ∷ []

-- what every header ends with: a grave accent and a line feed
abbrev pub header_end : List ℕ
header_end = 96 ∷ 10 ∷ []

-- a text, filled with spaces on the right
abbrev pub field : ℕ → List ℕ → List ℕ
field width text = text ++ replicate (width - length text) 32

-- the fields of a header after the name: the time, the owner and the group 0, the mode in octal and the size in decimal
unfoldable pub numbers : List ℕ → ℕ → List ℕ
numbers mode size = field 12 (codes "0") ++ (field 6 (codes "0") ++ (field 6 (codes "0")
    ++ (field 8 mode ++ (field 10 (decimal size) ++ header_end))))

-- a header, with its spelled name
abbrev pub header : List ℕ → List ℕ → ℕ → List ℕ
header spelled mode size = field 16 spelled ++ numbers mode size

-- one line feed after contents of an odd size
abbrev pub padding : ℕ → List ℕ
padding size = if size % 2 == 0 then [] else 10 ∷ []

-- a part: its header, its contents and their padding
abbrev pub part : List ℕ → List ℕ → List ℕ → List ℕ
part spelled mode contents = header spelled mode (length contents) ++ (contents ++ padding (length contents))

-- the name of the table of symbols, as it is spelled
abbrev pub table_name : List ℕ
table_name = 47 ∷ []

-- a member: its name is followed by `/`
abbrev pub member_text : ArchiveMember → List ℕ
member_text member = part (member.name ++ 47 ∷ []) (codes "644") member.contents

-- the table of symbols, where there is one
abbrev pub table_part : Option (List ℕ) → List ℕ
table_part None = []
table_part (Some table) = part table_name (codes "0") table

-- the archive of a table, if there is one, and members
abbrev pub archive_text : Option (List ℕ) → List ArchiveMember → List ℕ
archive_text table members = archive_mark ++ (table_part table ++ flat_map member_text members)

-- whether a member's name may have a byte
abbrev pub is_name_byte : ℕ → Bool
is_name_byte byte = nat_le 33 byte && (nat_le byte 126 && not (byte == 47))

-- whether a member may have a name: 1 to 15 such bytes
abbrev pub is_member_name : List ℕ → Bool
is_member_name name = nat_le 1 (length name) && (nat_le (length name) 15 && list_all is_name_byte name)

-- sizes from here on have too many digits for their field
abbrev pub size_limit : ℕ
size_limit = 10000000000

-- whether an archive can have a member
abbrev pub is_member : ArchiveMember → Bool
is_member member = is_member_name member.name && nat_lt (length member.contents) size_limit
