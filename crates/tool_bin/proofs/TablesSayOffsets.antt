-- The offsets that a table lists are those of the members' headers.
use Rattle.std.proofs.Common.{◌≡◌, ℕ, zero, suc, ◌+◌, ◌*◌, ◌%◌, ◌<◌, ◌≤◌, Bool, true, false, cond, eqb, ltb, List, [], ◌∷◌, ◌++◌, length, drop, append_assoc, length-append, Some, None, refl, sym, ap, ◌∙◌, arith}
use Rattle.std.specs.Prelude.{replicate, codes, sum_by, flat_map}
use Rattle.std.specs.List.{list_all}
use Rattle.std.proofs.lemmas.List.{drop_at}
use Rattle.std.proofs.lemmas.List.Sums.{sum_by-cons}
use Rattle.std.proofs.lemmas.Grind.{flat_map-append}
use Rattle.std.proofs.lemmas.Bool.{and_parts, ltb-true}
use Rattle.std.proofs.lemmas.Option.{same_Some}
use Rattle.thunk_codec.specs.Job.{encoded_count}
use Rattle.text_lines.specs.Maybe.{◌>>=◌, bind_some, test_some}
use Rattle.tool_bin.specs.Archive.{ArchiveMember, archive_mark, archive_text, header, is_member, is_member_name, member_text, padding, part, size_limit, table_name}
use Rattle.tool_bin.specs.ArchiveReading.{member_at}
use Rattle.tool_bin.specs.SymbolTable.{zero_terminated, first_offset, fits_word, part_len, offset_after, offsets_from, size_within, symbols_of, table_of, table_size, table_with, table_words}
use Rattle.tool_bin.proofs.TableByCappedOffsets.{length-offsets_from}
use Rattle.tool_bin.proofs.FieldsReadBack.{name_len}
use Rattle.tool_bin.proofs.ArchivesReadBack.{IsBetween, header_len, member_between, table_between, member_found}

-- ---- lengths of parts

parity_by : (k : ℕ) → k < 2 → length {A = ℕ} (cond (eqb k 0) [] (10 ∷ [])) ≡ k
parity_by zero small = refl
parity_by (suc zero) small = refl
parity_by (suc (suc k)) small = absurd (omega (arith, small))

padding_len : (n : ℕ) → length (padding n) ≡ n % 2
padding_len n = parity_by (n % 2) (omega arith)

length-part : (spelled mode between contents : List ℕ) → IsBetween mode between → length spelled ≤ 16 → length contents < size_limit → length (part spelled mode contents) ≡ part_len (length contents)
length-part spelled mode between contents is short small =
    let n = length contents in
    let prefix = header_len spelled mode between n is short small in
    omega (arith, prefix, padding_len n, length-append (header spelled mode n) (contents ++ padding n), length-append contents (padding n))

length-member_text : (member : ArchiveMember) → is_member member ≡ true → length (member_text member) ≡ part_len (length member.contents)
length-member_text member good =
    let parts = and_parts (is_member_name member.name) (ltb (length member.contents) size_limit) good in
    let len = name_len member.name parts.0 in
    length-part (member.name ++ 47 ∷ []) (codes "644") _ member.contents member_between (omega (arith, len.1, length-append member.name (47 ∷ []))) (ltb-true (length member.contents) size_limit parts.1)

length-members : (members : List ArchiveMember) → list_all is_member members ≡ true → length (flat_map member_text members) ≡ sum_by (λ member. part_len (length member.contents)) members
length-members [] good = refl
length-members (member ∷ members) good =
    let parts = and_parts (is_member member) (list_all is_member members) good in
    length-append (member_text member) (flat_map member_text members)
    ∙ ap (λ (n : ℕ). n + length (flat_map member_text members)) (length-member_text member parts.0)
    ∙ ap (λ (n : ℕ). part_len (length member.contents) + n) (length-members members parts.1)
    ∙ sym (sum_by-cons (λ (m : ArchiveMember). part_len (length m.contents)) member members)

-- ---- where a member stands

both_by : (before : List ArchiveMember) (member : ArchiveMember) (after : List ArchiveMember) → list_all is_member (before ++ member ∷ after) ≡ true → (list_all is_member before ≡ true) × (is_member member ≡ true)
both_by [] member after good = (refl, (and_parts (is_member member) (list_all is_member after) good).0)
both_by (first ∷ before) member after good =
    let parts = and_parts (is_member first) (list_all is_member (before ++ member ∷ after)) good in
    let others = both_by before member after parts.1 in
    (rw (parts.0) others.0, others.1)

pub member_stands : (table : List ℕ) (before : List ArchiveMember) (member : ArchiveMember) (after : List ArchiveMember) → length table < size_limit → list_all is_member (before ++ member ∷ after) ≡ true
    → member_at (drop (offset_after (first_offset (length table)) before) (archive_text (Some table) (before ++ member ∷ after))) ≡ Some (member, flat_map member_text after)
member_stands table before member after small good =
    let parts = both_by before member after good in
    let prefix = part table_name (codes "0") table in
    let texts = flat_map member_text before in
    let rest = member_text member ++ flat_map member_text after in
    let whole : archive_text (Some table) (before ++ member ∷ after) ≡ (archive_mark ++ (prefix ++ texts)) ++ rest
    = ap (λ (v : List ℕ). archive_mark ++ (prefix ++ v)) (flat_map-append member_text before (member ∷ after))
    ∙ ap (λ (v : List ℕ). archive_mark ++ v) (sym (append_assoc prefix texts rest))
    ∙ sym (append_assoc archive_mark (prefix ++ texts) rest) in
    let len : length (archive_mark ++ (prefix ++ texts)) ≡ offset_after (first_offset (length table)) before
    = omega (arith, length-append archive_mark (prefix ++ texts), length-append prefix texts, length-part table_name (codes "0") _ table table_between (omega arith) small, length-members before parts.0) in
    ap (λ (v : List ℕ). member_at (drop (offset_after (first_offset (length table)) before) v)) whole
    ∙ ap member_at (drop_at (archive_mark ++ (prefix ++ texts)) rest (offset_after (first_offset (length table)) before) len)
    ∙ member_found member (flat_map member_text after) parts.1

-- ---- the offsets in order

pub offsets_in_order : (offset : ℕ) (before : List ArchiveMember) (member : ArchiveMember) (after : List ArchiveMember)
    → offsets_from offset (before ++ member ∷ after) ≡ offsets_from offset before ++ (replicate (length (symbols_of member)) (offset_after offset before) ++ offsets_from (offset_after offset before + part_len (length member.contents)) after)
unfolding offsets_from
offsets_in_order offset [] member after = ap (λ (n : ℕ). replicate (length (symbols_of member)) n ++ offsets_from (n + part_len (length member.contents)) after) (let e : offset ≡ offset + 0 = omega arith in e)
offsets_in_order offset (first ∷ before) member after =
    let len = part_len (length first.contents) in
    let others = sum_by (λ m. part_len (length m.contents)) before in
    let same : offset + len + others ≡ offset_after offset (first ∷ before) = omega (arith, sum_by-cons (λ (m : ArchiveMember). part_len (length m.contents)) first before) in
    ap (λ (v : List ℕ). replicate (length (symbols_of first)) offset ++ v) (offsets_in_order (offset + len) before member after)
    ∙ sym (append_assoc (replicate (length (symbols_of first)) offset) (offsets_from (offset + len) before) (replicate (length (symbols_of member)) (offset + len + others) ++ offsets_from (offset + len + others + part_len (length member.contents)) after))
    ∙ ap (λ (n : ℕ). (replicate (length (symbols_of first)) offset ++ offsets_from (offset + len) before) ++ (replicate (length (symbols_of member)) n ++ offsets_from (n + part_len (length member.contents)) after)) same

-- ---- what a table says

counts_len : (offsets : List ℕ) → length (flat_map encoded_count offsets) ≡ 4 * length offsets
counts_len [] = refl
counts_len (offset ∷ offsets) = omega (arith, length-append (encoded_count offset) (flat_map encoded_count offsets), counts_len offsets)

sized_by : (test : Bool) (size found : ℕ) → cond test (Some size) None ≡ Some found → size ≡ found
sized_by true size found e = same_Some size found e
sized_by false size found e = absurd cc

sized : (size found : ℕ) → size_within size ≡ Some found → size ≡ found
sized size found e = sized_by (ltb size size_limit) size found e

said_by : (members : List ArchiveMember) (table : List ℕ) (size : ℕ) → table_size (length (flat_map symbols_of members)) (length (flat_map zero_terminated (flat_map symbols_of members))) ≡ size
    → table ≡ encoded_count (length (flat_map symbols_of members)) ++ (flat_map encoded_count (offsets_from (first_offset size) members) ++ flat_map zero_terminated (flat_map symbols_of members))
    → table ≡ encoded_count (length (flat_map symbols_of members)) ++ (flat_map encoded_count (offsets_from (first_offset (length table)) members) ++ flat_map zero_terminated (flat_map symbols_of members))
said_by members table size is said =
    let symbols = flat_map symbols_of members in
    let offsets = flat_map encoded_count (offsets_from (first_offset size) members) in
    let len : size ≡ length table = omega (arith, is, ap (λ (v : List ℕ). length v) said, length-append (encoded_count (length symbols)) (offsets ++ flat_map zero_terminated symbols), length-append offsets (flat_map zero_terminated symbols), counts_len (offsets_from (first_offset size) members), length-offsets_from (first_offset size) members) in
    said ∙ ap (λ (n : ℕ). encoded_count (length symbols) ++ (flat_map encoded_count (offsets_from (first_offset n) members) ++ flat_map zero_terminated symbols)) len

pub table_says : (table : List ℕ) (members : List ArchiveMember) → table_of members ≡ Some table
    → table ≡ encoded_count (length (flat_map symbols_of members)) ++ (flat_map encoded_count (offsets_from (first_offset (length table)) members) ++ flat_map zero_terminated (flat_map symbols_of members))
unfolding table_of
table_says table members e =
    let symbols = flat_map symbols_of members in
    let names = flat_map zero_terminated symbols in
    let sizes = bind_some (size_within (table_size (length symbols) (length names))) (λ size. table_with (length symbols) (offsets_from (first_offset size) members) names) table e in
    let offsets = offsets_from (first_offset sizes.0) members in
    let counted = test_some (fits_word (length symbols)) (table_words offsets >>= λ words. Some (encoded_count (length symbols) ++ (words ++ names))) table sizes.2 in
    let words = bind_some (table_words offsets) (λ words. Some (encoded_count (length symbols) ++ (words ++ names))) table counted.1 in
    let listed = test_some (list_all fits_word offsets) (Some (flat_map encoded_count offsets)) words.0 words.1 in
    let said : table ≡ encoded_count (length symbols) ++ (flat_map encoded_count offsets ++ names)
    = sym (ap (λ (v : List ℕ). encoded_count (length symbols) ++ (v ++ names)) (same_Some (flat_map encoded_count offsets) words.0 listed.1) ∙ same_Some (encoded_count (length symbols) ++ (words.0 ++ names)) table words.2) in
    said_by members table sizes.0 (sized (table_size (length symbols) (length names)) sizes.0 sizes.1) said
