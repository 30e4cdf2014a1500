-- Archives are read back from their texts.
use Rattle.std.proofs.Common.{◌≡◌, ℕ, zero, suc, ◌+◌, ◌-◌, ◌<◌, ◌≤◌, ◌^◌, true, false, not, ◌&&◌, ltb, leb, eqb, List, [], ◌∷◌, ◌++◌, length, take, drop, append_assoc, length-append, Option, Some, None, refl, sym, ap, ◌∙◌, arith}
use Rattle.std.specs.Prelude.{replicate, decimal, codes, nat_eq, is_some, IfSome}
use Rattle.std.specs.List.{list_all, flat_map, ends_with}
use Rattle.std.proofs.lemmas.List.{take_at, drop_at, length-replicate}
use Rattle.std.proofs.lemmas.Bool.{and_parts, le-leb, ltb-true, ne_eqb, not-true, eqb-false}
use Rattle.std.proofs.lemmas.Bool.Decides.{Decides-eqb}
use Rattle.std.proofs.lemmas.Slice.Eq.{ends_is}
use Rattle.std.proofs.lemmas.Fmt.{length-decimal-le}
use Rattle.text_lines.specs.Maybe.{◌>>=◌}
use Rattle.tool_bin.specs.Archive.{ArchiveMember, archive_mark, archive_text, field, header, header_end, is_member, is_member_name, is_name_byte, member_text, numbers, padding, part, size_limit, table_name}
use Rattle.tool_bin.specs.ArchiveReading.{all_members, archive_of, begins_with_table, after_table, header_at, member_at, members_at, name_in, member_name_of, size_in, member_size_of}
use Rattle.tool_bin.proofs.MembersReadInTurn.{going_shortens, one_member}
use Rattle.tool_bin.proofs.FieldsReadBack.{contents_read, name_bytes, name_len, name_read, size_read}

-- ---- headers

field_len : (width : ℕ) (text : List ℕ) → length text ≤ width → length (field width text) ≡ width
field_len width text short = length-append text (replicate (width - length text) 32) ∙ (let e : length text + length (replicate (width - length text) 32) ≡ width = omega (arith, short, length-replicate {A = ℕ} (width - length text) 32) in e)

size_len : (n : ℕ) → n < 10 ^ 10 → length (field 10 (decimal n)) ≡ 10
size_len n small = field_len 10 (decimal n) (length-decimal-le 10 n (omega arith) small (omega (arith, small)))

-- a header by its fields: the name, the fields between, the size
abbrev fields : List ℕ → List ℕ → List ℕ → List ℕ
fields name between size = name ++ (between ++ (size ++ header_end))

-- lengths of the fields
record AreFields (name between size : List ℕ) : Type 0 where
  pub first : length name ≡ 16
  pub middle : length between ≡ 32
  pub last : length size ≡ 10

fields_len : (name between size : List ℕ) → AreFields name between size → length (fields name between size) ≡ 60
fields_len name between size are =
    let a = are.first in let b = are.middle in let d = are.last in
    omega (arith, a, b, d, length-append name (between ++ (size ++ header_end)), length-append between (size ++ header_end), length-append size header_end)

header_found : (name between size rest : List ℕ) → AreFields name between size → header_at (fields name between size ++ rest) ≡ Some (fields name between size, rest)
header_found name between size rest are =
    let h = fields name between size in
    let len = fields_len name between size are in
    let long : leb 60 (length (h ++ rest)) ≡ true = le-leb 60 (length (h ++ rest)) (omega (arith, len, length-append h rest)) in
    rw (long, take_at h rest 60 len, drop_at h rest 60 len) refl

name_found : (name between size : List ℕ) → AreFields name between size → member_name_of (fields name between size) ≡ name_in name
name_found name between size are = ap name_in (take_at name (between ++ (size ++ header_end)) 16 are.first)

size_field : (name between size : List ℕ) → AreFields name between size → take 10 (drop 48 (fields name between size)) ≡ size
size_field name between size are =
    let a = are.first in let b = are.middle in
    ap (λ (v : List ℕ). take 10 (drop 48 v)) (sym (append_assoc name between (size ++ header_end)))
    ∙ ap (take 10) (drop_at (name ++ between) (size ++ header_end) 48 (omega (arith, a, b, length-append name between)))
    ∙ take_at size header_end 10 are.last

end_found : (name between size : List ℕ) → ends_with nat_eq (fields name between size) header_end ≡ true
end_found name between size =
    let whole : fields name between size ≡ (name ++ (between ++ size)) ++ header_end = sym (append_assoc name (between ++ size) header_end ∙ ap (λ (v : List ℕ). name ++ v) (append_assoc between size header_end)) in
    (ends_is Decides-eqb (fields name between size) header_end _ refl).1 (name ++ (between ++ size)) whole

size_found : (name between size : List ℕ) → AreFields name between size → member_size_of (fields name between size) ≡ size_in size
size_found name between size are = rw (end_found name between size) (ap size_in (size_field name between size are))

-- ---- parts

-- the fields between of a mode
pub record IsBetween (mode between : List ℕ) : Type 0 where
  pub len : length between ≡ 32
  pub is : (size : ℕ) → numbers mode size ≡ between ++ (field 10 (decimal size) ++ header_end)

pub member_between : IsBetween (codes "644") (field 12 (codes "0") ++ (field 6 (codes "0") ++ (field 6 (codes "0") ++ field 8 (codes "644"))))
unfolding numbers
member_between = record { len = refl; is = λ size. refl }

pub table_between : IsBetween (codes "0") (field 12 (codes "0") ++ (field 6 (codes "0") ++ (field 6 (codes "0") ++ field 8 (codes "0"))))
unfolding numbers
table_between = record { len = refl; is = λ size. refl }

-- a part and what stands after it, by its fields
part_is : (spelled mode between contents rest : List ℕ) → IsBetween mode between
    → part spelled mode contents ++ rest ≡ fields (field 16 spelled) between (field 10 (decimal (length contents))) ++ (contents ++ (padding (length contents) ++ rest))
part_is spelled mode between contents rest is =
    let n = length contents in
    append_assoc (header spelled mode n) (contents ++ padding n) rest
    ∙ ap (λ (v : List ℕ). header spelled mode n ++ v) (append_assoc contents (padding n) rest)
    ∙ ap (λ (v : List ℕ). (field 16 spelled ++ v) ++ (contents ++ (padding n ++ rest))) (is.is n)

are_fields : (spelled mode between : List ℕ) (n : ℕ) → IsBetween mode between → length spelled ≤ 16 → n < 10 ^ 10 → AreFields (field 16 spelled) between (field 10 (decimal n))
are_fields spelled mode between n is short small = record { first = field_len 16 spelled short; middle = is.len; last = size_len n small }

-- how long a header is
pub header_len : (spelled mode between : List ℕ) (n : ℕ) → IsBetween mode between → length spelled ≤ 16 → n < 10 ^ 10 → length (header spelled mode n) ≡ 60
header_len spelled mode between n is short small =
    ap (λ (v : List ℕ). length (field 16 spelled ++ v)) (is.is n) ∙ fields_len (field 16 spelled) between (field 10 (decimal n)) (are_fields spelled mode between n is short small)

after_by : (name between size table rest : List ℕ) → AreFields name between size → size_in size ≡ Some (length table) → after_table (fields name between size ++ (table ++ (padding (length table) ++ rest))) ≡ Some rest
unfolding after_table
after_by name between size table rest are read =
    rw (header_found name between size (table ++ (padding (length table) ++ rest)) are, size_found name between size are, read, contents_read table rest) refl

-- what stands after a table is found
pub table_found : (table rest : List ℕ) → length table < size_limit → after_table (part table_name (codes "0") table ++ rest) ≡ Some rest
table_found table rest small =
    let between = field 12 (codes "0") ++ (field 6 (codes "0") ++ (field 6 (codes "0") ++ field 8 (codes "0"))) in
    let are = are_fields table_name (codes "0") between (length table) table_between (omega arith) small in
    ap after_table (part_is table_name (codes "0") between table rest table_between)
    ∙ after_by (field 16 table_name) between (field 10 (decimal (length table))) table rest are (size_read (length table) small)

-- a member is found
member_by : (field_of_name between size name contents rest : List ℕ) → AreFields field_of_name between size → name_in field_of_name ≡ Some name → size_in size ≡ Some (length contents)
    → member_at (fields field_of_name between size ++ (contents ++ (padding (length contents) ++ rest))) ≡ Some (record { name = name; contents = contents }, rest)
unfolding member_at
member_by field_of_name between size name contents rest are named read =
    rw (header_found field_of_name between size (contents ++ (padding (length contents) ++ rest)) are, name_found field_of_name between size are, named, size_found field_of_name between size are, read, contents_read contents rest) refl

pub member_found : (member : ArchiveMember) (rest : List ℕ) → is_member member ≡ true → member_at (member_text member ++ rest) ≡ Some (member, rest)
member_found member rest good =
    let parts = and_parts (is_member_name member.name) (ltb (length member.contents) size_limit) good in
    let small = ltb-true (length member.contents) size_limit parts.1 in
    let len = name_len member.name parts.0 in
    let between = field 12 (codes "0") ++ (field 6 (codes "0") ++ (field 6 (codes "0") ++ field 8 (codes "644"))) in
    let short : length (member.name ++ 47 ∷ []) ≤ 16 = omega (arith, len.1, length-append member.name (47 ∷ [])) in
    let are = are_fields (member.name ++ 47 ∷ []) (codes "644") between (length member.contents) member_between short small in
    ap member_at (part_is (member.name ++ 47 ∷ []) (codes "644") between member.contents rest member_between)
    ∙ member_by (field 16 (member.name ++ 47 ∷ [])) between (field 10 (decimal (length member.contents))) member.name member.contents rest are (name_read member.name parts.0) (size_read (length member.contents) small)

-- ---- members

-- a member takes a byte at least
text_some : (member : ArchiveMember) (rest : List ℕ) → is_member member ≡ true → 0 < length (member_text member ++ rest)
text_some member rest good =
    let name = (name_len member.name (and_parts (is_member_name member.name) (ltb (length member.contents) size_limit) good).0).0 in
    omega (
      arith,
      name,
      length-append (member_text member) rest,
      length-append (header (member.name ++ 47 ∷ []) (codes "644") (length member.contents)) (member.contents ++ padding (length member.contents)),
      length-append (field 16 (member.name ++ 47 ∷ [])) (numbers (codes "644") (length member.contents)),
      length-append (member.name ++ 47 ∷ []) (replicate (16 - length (member.name ++ 47 ∷ [])) 32),
      length-append member.name (47 ∷ []),
    )

members_found : (most : ℕ) (members : List ArchiveMember) → list_all is_member members ≡ true → length (flat_map member_text members) ≤ most → members_at most (flat_map member_text members) ≡ Some members
unfolding members_at
members_found zero [] good room = refl
members_found (suc most) [] good room = refl
members_found zero (member ∷ members) good room =
    absurd (omega (arith, room, text_some member (flat_map member_text members) (and_parts (is_member member) (list_all is_member members) good).0))
members_found (suc most) (member ∷ members) good room =
    let parts = and_parts (is_member member) (list_all is_member members) good in
    let after = flat_map member_text members in
    let some = text_some member after parts.0 in
    let found = member_found member after parts.0 in
    let shorter = going_shortens (member_text member ++ after) member after (sym found) in
    one_member most (member_text member ++ after) member after found some
    ∙ ap (λ (read : Option (List ArchiveMember)). read >>= λ others. Some (member ∷ others)) (members_found most members parts.1 (omega (arith, room, shorter)))

all_found : (members : List ArchiveMember) → list_all is_member members ≡ true → all_members (flat_map member_text members) ≡ Some members
all_found members good = members_found (length (flat_map member_text members)) members good (omega arith)

-- ---- archives

-- members don't begin as a table
first_other : (byte : ℕ) → is_name_byte byte ≡ true → eqb 47 byte ≡ false
first_other byte good =
    let bounds = and_parts (leb 33 byte) (leb byte 126 && not (eqb byte 47)) good in
    let other = and_parts (leb byte 126) (not (eqb byte 47)) bounds.1 in
    ne_eqb 47 byte (λ e. eqb-false byte 47 (not-true (eqb byte 47) other.1) (sym e))

not_table_by : (name after : List ℕ) → is_member_name name ≡ true → list_all is_name_byte name ≡ true → begins_with_table (name ++ after) ≡ false
not_table_by [] after good bytes = absurd cc
not_table_by (byte ∷ name) after good bytes = rw (first_other byte (and_parts (is_name_byte byte) (list_all is_name_byte name) bytes).0) refl

not_table : (members : List ArchiveMember) → list_all is_member members ≡ true → begins_with_table (flat_map member_text members) ≡ false
not_table [] good = refl
not_table (member ∷ members) good =
    let name = (and_parts (is_member_name member.name) (ltb (length member.contents) size_limit) (and_parts (is_member member) (list_all is_member members) good).0).0 in
    let spaces = replicate (16 - length (member.name ++ 47 ∷ [])) 32 in
    let rest = numbers (codes "644") (length member.contents) in
    let contents = member.contents ++ padding (length member.contents) in
    let after = flat_map member_text members in
    ap begins_with_table (append_assoc (((member.name ++ 47 ∷ []) ++ spaces) ++ rest) contents after
    ∙ append_assoc ((member.name ++ 47 ∷ []) ++ spaces) rest (contents ++ after)
    ∙ append_assoc (member.name ++ 47 ∷ []) spaces (rest ++ (contents ++ after))
    ∙ append_assoc member.name (47 ∷ []) (spaces ++ (rest ++ (contents ++ after))))
    ∙ not_table_by member.name (47 ∷ (spaces ++ (rest ++ (contents ++ after)))) name (name_bytes member.name name)

without_by : (body : List ℕ) (members : List ArchiveMember) → begins_with_table body ≡ false → all_members body ≡ Some members → archive_of (archive_mark ++ body) ≡ Some (record { has_table = false; members = members })
unfolding archive_of
without_by body members other found = rw (other, found) refl

with_by : (body rest : List ℕ) (members : List ArchiveMember) → begins_with_table body ≡ true → after_table body ≡ Some rest → all_members rest ≡ Some members → archive_of (archive_mark ++ body) ≡ Some (record { has_table = true; members = members })
unfolding archive_of
with_by body rest members begun is_after found = rw (begun, is_after, found) refl

table_begins : (table rest : List ℕ) → begins_with_table (part table_name (codes "0") table ++ rest) ≡ true
table_begins table rest = refl

pub read_back : (table : Option (List ℕ)) (members : List ArchiveMember) → IfSome table (λ contents. length contents < size_limit) → list_all is_member members ≡ true
    → archive_of (archive_text table members) ≡ Some (record { has_table = is_some table; members = members })
read_back None members small good = without_by (flat_map member_text members) members (not_table members good) (all_found members good)
read_back (Some table) members small good =
    let after = flat_map member_text members in
    with_by (part table_name (codes "0") table ++ after) after members (table_begins table after) (table_found table after small) (all_found members good)
