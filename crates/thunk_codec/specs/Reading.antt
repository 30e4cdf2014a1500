-- Reading a thunk's text from its beginning, as a total function.
use Rattle.std.specs.Prelude.{ℕ, zero, suc, List, [], ◌∷◌, length, take, drop, nat_eq, nat_le, Option, Some, bytes_eq, if◌then◌else◌}
use Rattle.std.specs.List.{starts_with}
use Rattle.object_name.specs.Number.{number_of}
use Rattle.object_name.specs.Name.{max_size}
use Rattle.thunk_codec.specs.declared.reference.Ref.{Ref}
use Rattle.text_lines.specs.Cuts.{strip_prefix, split_at_byte}
use Rattle.text_lines.specs.Maybe.{◌>>=◌, ◌>>◌, check}
use Rattle.thunk_codec.specs.Reference.{ref_of}
use Rattle.thunk_codec.specs.Thunk.{Parts, head_line, end_line, keeps_rules}

-- `LEN:` and so many bytes
unfoldable pub counted_at : List ℕ → Option (List ℕ × List ℕ)
counted_at bytes = do
  len ← split_at_byte 58 bytes
  n ← number_of len.0
  check (nat_le n (length len.1))
  Some (take n len.1, drop n len.1)

-- a REF up to the end of its line
unfoldable pub ref_at : List ℕ → Option (Ref × List ℕ)
ref_at bytes = do
  text ← split_at_byte 10 bytes
  ref ← ref_of text.0
  Some (ref, text.1)

-- what an `a` or `o` line says after its letter
unfoldable pub bytes_at : List ℕ → Option (List ℕ × List ℕ)
bytes_at bytes = do
  said ← counted_at bytes
  rest ← strip_prefix (10 ∷ []) said.1
  Some (said.0, rest)

-- what an `e` line says after its letter
unfoldable pub env_at : List ℕ → Option ((List ℕ × List ℕ) × List ℕ)
env_at bytes = do
  said ← bytes_at bytes
  env ← split_at_byte 61 said.0
  Some (env, said.1)

-- what an `i` line says after its letter
unfoldable pub input_line_at : List ℕ → Option ((List ℕ × Ref) × List ℕ)
input_line_at bytes = do
  path ← counted_at bytes
  text ← strip_prefix (32 ∷ []) path.1
  ref ← ref_at text
  Some ((path.0, ref.0), ref.1)

-- as many lines of a letter as there are, at most so many
unfoldable pub lines_at : {A : Type 0} → ℕ → (List ℕ → Option (A × List ℕ)) → ℕ → List ℕ → Option (List A × List ℕ)
lines_at letter said_at zero bytes = Some ([], bytes)
lines_at letter said_at (suc most) bytes =
    if starts_with nat_eq bytes (letter ∷ 32 ∷ []) then (do
      first ← said_at (drop 2 bytes)
      others ← lines_at letter said_at most first.1
      Some (first.0 ∷ others.0, others.1))
    else Some ([], bytes)

-- all lines of a letter: none is empty, so there are at most as many as bytes
abbrev pub all_lines_at : {A : Type 0} → ℕ → (List ℕ → Option (A × List ℕ)) → List ℕ → Option (List A × List ℕ)
all_lines_at letter said_at bytes = lines_at letter said_at (length bytes) bytes

-- the parts that a text lists, whatever rules they break, and the bytes after it
unfoldable pub parts_at : List ℕ → Option (Parts × List ℕ)
parts_at bytes = do
  first ← strip_prefix head_line bytes
  letter ← strip_prefix (102 ∷ 32 ∷ []) first
  function ← ref_at letter
  args ← all_lines_at 97 bytes_at function.1
  envs ← all_lines_at 101 env_at args.1
  inputs ← all_lines_at 105 input_line_at envs.1
  outputs ← all_lines_at 111 bytes_at inputs.1
  rest ← strip_prefix end_line outputs.1
  Some (record { function = function.0; args = args.0; envs = envs.0; inputs = inputs.0; outputs = outputs.0 }, rest)

-- the parts of the thunk whose text this is, if there is one
unfoldable pub thunk_of : List ℕ → Option Parts
thunk_of bytes = do
  check (nat_le (length bytes) max_size)
  read ← parts_at bytes
  check (bytes_eq read.1 [])
  check (keeps_rules read.0)
  Some read.0
