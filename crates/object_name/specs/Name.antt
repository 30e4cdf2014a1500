-- Names of objects: the kind, the SHA-256 digest (FIPS 180-4) and the size of their bytes, and how a name is spelled.
use Rattle.std.specs.Prelude.{◌≡◌, ℕ, ◌+◌, ◌*◌, ◌≤◌, List, ◌∷◌, ◌++◌, length, take, drop, fold, slice_index, nat_le, nat_lt, Bool, ◌==◌, ◌&&◌, Option, Some, None, bytes_eq, unwrap_or, if◌then◌else◌}
use Rattle.std.specs.List.{list_all}
use Rattle.std.specs.Int.{w32, to_be_bytes}
use Rattle.std.specs.Ordering.{nat_cmp, on, then_cmp}
use Rattle.std.specs.declared.cmp.Ordering.{Ordering}
use Rattle.std.specs.Cmp.Lexicographic.{slice_cmp}
use Rattle.sha2.specs.Sha256.{sha256}
use Rattle.hex.specs.Hex.{encode_lower, hex_digit_value}
use Rattle.base64.specs.GeneralPurpose.{encode_of, decoded_bytes_of, IsBytes}
use Rattle.base64.specs.Engines.{url_safe_no_pad}
use Rattle.object_name.specs.declared.kind.Kind.{Kind}
use Rattle.object_name.specs.declared.kind.Kind.TheVariants.{Value, Thunk}
use Rattle.object_name.specs.Kind.{kind_of, rank_of_kind, letter_of_kind}

-- the greatest size of an object, in bytes
abbrev pub max_size : ℕ
max_size = 16777216

-- how many characters spell a name
abbrev pub spelling_len : ℕ
spelling_len = 52

-- what a name says of the bytes that it names
pub record ObjectName : Type 0 where
  pub kind : Kind
  pub digest : List ℕ
  pub size : ℕ

-- a digest is 32 bytes, and no object is longer than the limit
pub record IsName (n : ObjectName) : Type 0 where
  pub digest : length n.digest ≡ 32
  pub bytes : IsBytes n.digest
  pub size : n.size ≤ max_size

-- the name of some bytes
abbrev pub name_of : List ℕ → ObjectName
name_of bytes = record { kind = kind_of bytes; digest = sha256 bytes; size = length bytes }

-- the spelling: a letter, the digest in the URL-safe alphabet of RFC 4648 without padding, the size in eight lower-case
-- hexadecimal digits
unfoldable pub spelling : ObjectName → List ℕ
spelling n = letter_of_kind n.kind ∷ encode_of url_safe_no_pad n.digest ++ encode_lower (to_be_bytes w32 n.size)

-- the value of some hexadecimal digits, the first of them the highest
abbrev pub hex_value : List ℕ → ℕ
hex_value digits = fold (λ value digit. value * 16 + unwrap_or (hex_digit_value digit) 0) 0 digits

-- the name that a text would spell
abbrev pub spelled_by : List ℕ → ObjectName
spelled_by text = record {
  kind = if slice_index text 0 == 84 then Thunk else Value;
  digest = decoded_bytes_of url_safe_no_pad (take 43 (drop 1 text));
  size = hex_value (drop 44 text);
}

-- whether this is what a name says
abbrev pub is_name : ObjectName → Bool
is_name n = (length n.digest == 32) && list_all (λ b. nat_lt b 256) n.digest && nat_le n.size max_size

-- the name whose spelling this is, if there is one
unfoldable pub named_by : List ℕ → Option ObjectName
named_by text = let n = spelled_by text in if is_name n && bytes_eq (spelling n) text then Some n else None

-- names stand in the order of their digests, then of their sizes, then of their kinds
abbrev pub name_cmp : ObjectName → ObjectName → Ordering
name_cmp = then_cmp (then_cmp (on (λ n. n.digest) (slice_cmp nat_cmp)) (on (λ n. n.size) nat_cmp)) (on (λ n. rank_of_kind n.kind) nat_cmp)
