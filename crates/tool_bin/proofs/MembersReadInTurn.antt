-- Reading members one after another, as a loop does.
use Rattle.std.proofs.Common.{◌≡◌, ℕ, zero, suc, ◌+◌, ◌<◌, ◌≤◌, true, false, eqb, List, [], ◌∷◌, ◌++◌, length, take, drop, length-drop, append_assoc, leb, Option, Some, None, refl, sym, ap, subst, ◌∙◌, arith}
use Rattle.std.specs.Prelude.{nat_eq}
use Rattle.std.specs.List.{starts_with}
use Rattle.std.proofs.lemmas.List.{append-nil}
use Rattle.std.proofs.lemmas.Bool.{leb-true, eqb-true}
use Rattle.std.proofs.lemmas.Option.{same_Some}
use Rattle.text_lines.specs.Maybe.{◌>>=◌, bind_some, test_some}
use Rattle.text_lines.specs.Cuts.{strip_prefix}
use Rattle.tool_bin.specs.Archive.{ArchiveMember, padding}
use Rattle.tool_bin.specs.ArchiveReading.{header_at, member_name_of, member_size_of, contents_at, member_at, members_at, all_members}

-- ---- what is read takes its bytes

strip_prefix_shortens : (mark bytes rest : List ℕ) → strip_prefix mark bytes ≡ Some rest → length rest ≤ length bytes
strip_prefix_shortens mark bytes rest e =
    let made = test_some (starts_with nat_eq bytes mark) (Some (drop (length mark) bytes)) rest e in
    let is = ap length (same_Some _ rest made.1) in
    omega (arith, is, length-drop (length mark) bytes)

contents_shorten : (size : ℕ) (bytes : List ℕ) (read : List ℕ × List ℕ) → contents_at size bytes ≡ Some read → length read.1 ≤ length bytes
unfolding contents_at
contents_shorten size bytes read e =
    let fits = test_some (leb size (length bytes)) (strip_prefix (padding size) (drop size bytes) >>= λ rest. Some (take size bytes, rest)) read e in
    let made = bind_some (strip_prefix (padding size) (drop size bytes)) (λ rest. Some (take size bytes, rest)) read fits.1 in
    let is = ap (λ (x : List ℕ × List ℕ). length x.1) (same_Some _ read made.2) in
    omega (arith, is, strip_prefix_shortens (padding size) (drop size bytes) made.0 made.1, length-drop size bytes)

header_shortens : (bytes : List ℕ) (cut : List ℕ × List ℕ) → header_at bytes ≡ Some cut → length cut.1 + 60 ≤ length bytes
header_shortens bytes cut e =
    let made = test_some (leb 60 (length bytes)) (Some (take 60 bytes, drop 60 bytes)) cut e in
    let is = ap (λ (x : List ℕ × List ℕ). length x.1) (same_Some _ cut made.1) in
    omega (arith, is, leb-true _ _ made.0, length-drop 60 bytes)

parts_shorten : (bytes : List ℕ) (cut : List ℕ × List ℕ) (size : ℕ) (found : List ℕ × List ℕ) (member : ArchiveMember) (read : ArchiveMember × List ℕ)
    → header_at bytes ≡ Some cut → contents_at size cut.1 ≡ Some found → Some (member, found.1) ≡ Some read → length read.1 < length bytes
parts_shorten bytes cut size found member read header contents is =
    let last = ap (λ (x : ArchiveMember × List ℕ). length x.1) (same_Some (member, found.1) read is) in
    omega (arith, last, contents_shorten size cut.1 found contents, header_shortens bytes cut header)

member_shortens : (bytes : List ℕ) (read : ArchiveMember × List ℕ) → member_at bytes ≡ Some read → length read.1 < length bytes
unfolding member_at
member_shortens bytes read e =
    let cut = bind_some (header_at bytes) (λ cut. member_name_of cut.0 >>= λ name. member_size_of cut.0 >>= λ size. contents_at size cut.1 >>= λ found. Some (record { name = name; contents = found.0 }, found.1)) read e in
    let name = bind_some (member_name_of cut.0.0) (λ name. member_size_of cut.0.0 >>= λ size. contents_at size cut.0.1 >>= λ found. Some (record { name = name; contents = found.0 }, found.1)) read cut.2 in
    let size = bind_some (member_size_of cut.0.0) (λ size. contents_at size cut.0.1 >>= λ found. Some (record { name = name.0; contents = found.0 }, found.1)) read name.2 in
    let found = bind_some (contents_at size.0 cut.0.1) (λ found. Some (record { name = name.0; contents = found.0 }, found.1)) read size.2 in
    parts_shorten bytes cut.0 size.0 found.0 (record { name = name.0; contents = found.0.0 }) read cut.1 found.1 found.2

-- ---- the loop

-- what was read before, and what is still read
abbrev pub members_after : List ArchiveMember → Option (List ArchiveMember) → Option (List ArchiveMember)
members_after prefix read = read >>= λ others. Some (prefix ++ others)

-- some members are read, and the rest of the bytes gives what is left
pub record Going (bytes : List ℕ) (prefix : List ArchiveMember) (rest : List ℕ) : Type 0 where
  pub most : ℕ
  pub room : length rest ≤ most
  pub goes_on : members_after prefix (members_at most rest) ≡ all_members bytes

members_after-more : (prefix : List ArchiveMember) (x : ArchiveMember) (read : Option (List ArchiveMember)) → members_after prefix (read >>= λ others. Some (x ∷ others)) ≡ members_after (prefix ++ x ∷ []) read
members_after-more prefix x (Some others) = ap (λ (v : List ArchiveMember). Some v) (sym (append_assoc prefix (x ∷ []) others))
members_after-more prefix x None = refl

pub one_member : (most : ℕ) (bytes : List ℕ) (x : ArchiveMember) (after : List ℕ) → member_at bytes ≡ Some (x, after) → 0 < length bytes → members_at (suc most) bytes ≡ (members_at most after >>= λ others. Some (x ∷ others))
unfolding members_at
one_member most [] x after read some = absurd (omega (arith, some))
one_member most (byte ∷ bytes) x after read some = rw read refl

more_by : (bytes : List ℕ) (prefix : List ArchiveMember) (rest : List ℕ) (x : ArchiveMember) (after : List ℕ) (most : ℕ)
    → length rest ≤ most → members_after prefix (members_at most rest) ≡ all_members bytes → member_at rest ≡ Some (x, after) → length after < length rest → Going bytes (prefix ++ x ∷ []) after
more_by bytes prefix rest x after zero room goes_on read shorter = absurd (omega (arith, room, shorter))
more_by bytes prefix rest x after (suc most) room goes_on read shorter = record {
  most = most;
  room = omega (arith, room, shorter);
  goes_on = sym (ap (members_after prefix) (one_member most rest x after read (omega (arith, shorter))) ∙ members_after-more prefix x (members_at most after)) ∙ goes_on;
}

-- one member more is read
pub going_more : (bytes : List ℕ) (prefix new : List ArchiveMember) (rest : List ℕ) (x : ArchiveMember) (after : List ℕ) → Going bytes prefix rest → Some (x, after) ≡ member_at rest → new ≡ prefix ++ x ∷ [] → Going bytes new after
going_more bytes prefix new rest x after going read pushed =
    subst (λ (v : List ArchiveMember). Going bytes v after) (sym pushed)
    (more_by bytes prefix rest x after going.most going.room going.goes_on (sym read) (member_shortens rest (x, after) (sym read)))

-- and fewer bytes are left
pub going_shortens : (rest : List ℕ) (x : ArchiveMember) (after : List ℕ) → Some (x, after) ≡ member_at rest → length after < length rest
going_shortens rest x after read = member_shortens rest (x, after) (sym read)

fails_by : (prefix : List ArchiveMember) (rest : List ℕ) (most : ℕ) → length rest ≤ most → false ≡ eqb (length rest) 0 → member_at rest ≡ None → members_after prefix (members_at most rest) ≡ None
unfolding members_at
fails_by prefix [] most room some read = absurd cc
fails_by prefix (byte ∷ rest) zero room some read = refl
fails_by prefix (byte ∷ rest) (suc most) room some read = rw read refl

-- no member is read
pub going_fails : (bytes : List ℕ) (prefix : List ArchiveMember) (rest : List ℕ) → Going bytes prefix rest → false ≡ eqb (length rest) 0 → None ≡ member_at rest → None ≡ all_members bytes
going_fails bytes prefix rest going some read = sym (fails_by prefix rest going.most going.room some (sym read)) ∙ going.goes_on

ends_by : (prefix : List ArchiveMember) (rest : List ℕ) (most : ℕ) → true ≡ eqb (length rest) 0 → members_after prefix (members_at most rest) ≡ Some prefix
unfolding members_at
ends_by prefix [] zero done = ap (λ (v : List ArchiveMember). Some v) (append-nil prefix)
ends_by prefix [] (suc most) done = ap (λ (v : List ArchiveMember). Some v) (append-nil prefix)
ends_by prefix (byte ∷ rest) most done = absurd (omega (arith, eqb-true (length (byte ∷ rest)) 0 (sym done)))

-- all members are read
pub going_ends : (bytes : List ℕ) (prefix : List ArchiveMember) (rest : List ℕ) → Going bytes prefix rest → true ≡ eqb (length rest) 0 → Some prefix ≡ all_members bytes
going_ends bytes prefix rest going done = sym (ends_by prefix rest going.most done) ∙ going.goes_on
