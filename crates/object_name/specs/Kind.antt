-- The two kinds of object: bytes that begin with `gg-thunk ` are a thunk, whoever wrote them, and all others a value.
use Rattle.std.specs.Prelude.{ℕ, List, Bool, true, false, codes, nat_eq, if◌then◌else◌}
use Rattle.std.specs.List.{starts_with}
use Rattle.object_name.specs.declared.kind.Kind.{Kind}
use Rattle.object_name.specs.declared.kind.Kind.TheVariants.{Value, Thunk}

-- what every thunk begins with
abbrev pub thunk_mark : List ℕ
thunk_mark = codes "gg-thunk "

-- the most outputs of a thunk
abbrev pub max_outputs : ℕ
max_outputs = 64

-- the kind of some bytes
abbrev pub kind_of : List ℕ → Kind
kind_of bytes = if starts_with nat_eq bytes thunk_mark then Thunk else Value

-- whether a kind is that of thunks
abbrev pub is_thunk_kind : Kind → Bool
is_thunk_kind Value = false
is_thunk_kind Thunk = true

-- values stand before thunks
abbrev pub rank_of_kind : Kind → ℕ
rank_of_kind Value = 0
rank_of_kind Thunk = 1

-- the letter that a name of this kind begins with
abbrev pub letter_of_kind : Kind → ℕ
letter_of_kind Value = 86
letter_of_kind Thunk = 84
