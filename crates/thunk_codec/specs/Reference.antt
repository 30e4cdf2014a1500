-- REFs: a value by its name, or an output of a thunk by the thunk's name and the output's index.
use Rattle.std.specs.Prelude.{◌≡◌, ℕ, ◌+◌, ◌^◌, ◌<◌, List, ◌∷◌, ◌++◌, take, drop, length, nat_lt, nat_le, ◌==◌, slice_index, Option, Some, None, decimal, if◌then◌else◌}
use Rattle.object_name.specs.declared.kind.Kind.TheVariants as kinds
use Rattle.object_name.specs.Number.{number_of}
use Rattle.object_name.specs.Kind.{is_thunk_kind}
use Rattle.object_name.specs.Name.{IsName, spelling, named_by, spelling_len}
use Rattle.thunk_codec.specs.declared.reference.Ref.{Ref}
use Rattle.thunk_codec.specs.declared.reference.Ref.TheVariants.{Value, Out}
use Rattle.text_lines.specs.Maybe.{◌>>=◌, ◌>>◌, check}

-- a value is named by a name of a value, an output by a name of a thunk and an index
abbrev pub IsRef : Ref → Type 0
IsRef (Value name) = IsName name × (name.kind ≡ kinds.Value)
IsRef (Out name index) = IsName name × (name.kind ≡ kinds.Thunk) × (index < 2 ^ 32)

-- how a REF is spelled: a name, and for an output `#` and its index
abbrev pub ref_text : Ref → List ℕ
ref_text (Value name) = spelling name
ref_text (Out name index) = spelling name ++ 35 ∷ decimal index

-- the value that a text names
abbrev pub value_ref_of : List ℕ → Option Ref
value_ref_of text = do
  name ← named_by text
  if is_thunk_kind name.kind then None else Some (Value name)

-- the output that a text names
abbrev pub out_ref_of : List ℕ → Option Ref
out_ref_of text = do
  name ← named_by (take spelling_len text)
  check (is_thunk_kind name.kind)
  check (slice_index text spelling_len == 35)
  index ← number_of (drop (spelling_len + 1) text)
  check (nat_lt index (2 ^ 32))
  Some (Out name index)

-- the REF whose spelling this is, if there is one
unfoldable pub ref_of : List ℕ → Option Ref
ref_of text = if nat_le (length text) spelling_len then value_ref_of text else out_ref_of text
