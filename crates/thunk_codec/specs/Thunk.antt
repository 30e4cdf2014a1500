-- Thunks: their parts, the rules that the parts keep, and their one text.
use Rattle.std.specs.Prelude.{◌≡◌, ℕ, ◌≤◌, List, [], ◌∷◌, ◌++◌, length, map, ◌==◌, ◌&&◌, ◌||◌, not, nat_le, Bool, true, false, IsTrue, decimal, codes}
use Rattle.std.specs.List.{flat_map, list_all, AllByRecursion}
use Rattle.std.specs.Ordering.{nat_cmp, is_lt}
use Rattle.std.specs.Cmp.Lexicographic.{slice_cmp}
use Rattle.object_name.specs.Kind.{max_outputs}
use Rattle.object_name.specs.Name.{max_size}
use Rattle.text_lines.specs.Among.{is_among}
use Rattle.thunk_codec.specs.declared.reference.Ref.{Ref}
use Rattle.thunk_codec.specs.Reference.{IsRef, ref_text}
use Rattle.thunk_codec.specs.Path.{is_path}

-- the parts of a thunk: the function, its arguments, its environment as keys and values, its inputs as paths and REFs, and
-- the paths of its outputs
pub record Parts : Type 0 where
  pub function : Ref
  pub args : List (List ℕ)
  pub envs : List (List ℕ × List ℕ)
  pub inputs : List (List ℕ × Ref)
  pub outputs : List (List ℕ)

-- a line: a letter, a space, what it says, and a line feed
abbrev pub line : ℕ → List ℕ → List ℕ
line letter said = letter ∷ 32 ∷ said ++ 10 ∷ []

-- bytes after their number
abbrev pub counted : List ℕ → List ℕ
counted bytes = decimal (length bytes) ++ 58 ∷ bytes

-- the first line, and the last
abbrev pub head_line : List ℕ
head_line = codes "gg-thunk 1" ++ 10 ∷ []

-- the last line of a thunk
abbrev pub end_line : List ℕ
end_line = codes "end" ++ 10 ∷ []

-- `f REF`
abbrev pub function_line : Ref → List ℕ
function_line function = line 102 (ref_text function)

-- `a LEN:BYTES`
abbrev pub arg_line : List ℕ → List ℕ
arg_line arg = line 97 (counted arg)

-- `e LEN:KEY=VALUE`
abbrev pub env_line : List ℕ × List ℕ → List ℕ
env_line env = line 101 (counted (env.0 ++ 61 ∷ env.1))

-- `i LEN:PATH REF`
abbrev pub input_line : List ℕ × Ref → List ℕ
input_line input = line 105 (counted input.0 ++ 32 ∷ ref_text input.1)

-- `o LEN:NAME`
abbrev pub output_line : List ℕ → List ℕ
output_line output = line 111 (counted output)

-- the text of some parts
unfoldable pub text_of : Parts → List ℕ
text_of t = head_line ++ (function_line t.function ++ (flat_map arg_line t.args ++ (flat_map env_line t.envs
    ++ (flat_map input_line t.inputs ++ (flat_map output_line t.outputs ++ end_line)))))

-- no byte is zero
abbrev pub has_no_zero : List ℕ → Bool
has_no_zero bytes = list_all (λ byte. not (byte == 0)) bytes

-- a letter or `_`
abbrev pub is_letter : ℕ → Bool
is_letter byte = (nat_le 65 byte && nat_le byte 90) || (nat_le 97 byte && nat_le byte 122) || (byte == 95)

-- a decimal digit
abbrev pub is_digit : ℕ → Bool
is_digit byte = nat_le 48 byte && nat_le byte 57

-- a letter or `_`, and then letters, digits and `_`
abbrev pub is_identifier : List ℕ → Bool
is_identifier [] = false
is_identifier (first ∷ others) = is_letter first && list_all (λ byte. is_letter byte || is_digit byte) others

-- each text is before the next, byte by byte
abbrev pub is_strictly_increasing : List (List ℕ) → Bool
is_strictly_increasing [] = true
is_strictly_increasing (first ∷ []) = true
is_strictly_increasing (first ∷ second ∷ others) = is_lt (slice_cmp nat_cmp first second) && is_strictly_increasing (second ∷ others)

-- no text is repeated
abbrev pub are_distinct : List (List ℕ) → Bool
are_distinct [] = true
are_distinct (first ∷ others) = not (is_among others first) && are_distinct others

-- the rules on how many inputs and outputs there are
abbrev pub keeps_numbers : Parts → Bool
keeps_numbers t = nat_le (length t.inputs) 4096 && (nat_le 1 (length t.outputs) && nat_le (length t.outputs) max_outputs)

-- the rules on the bytes of arguments and of the environment
abbrev pub keeps_bytes : Parts → Bool
keeps_bytes t = list_all has_no_zero t.args
    && (list_all (λ env. is_identifier env.0) t.envs && list_all (λ env. has_no_zero env.1) t.envs)

-- the rules on orders: keys and inputs are sorted, and no output is repeated
abbrev pub keeps_orders : Parts → Bool
keeps_orders t = is_strictly_increasing (map (λ env. env.0) t.envs) && (is_strictly_increasing (map (λ input. input.0) t.inputs) && are_distinct t.outputs)

-- the rules on paths
abbrev pub keeps_paths : Parts → Bool
keeps_paths t = list_all is_path (map (λ input. input.0) t.inputs) && list_all is_path t.outputs

-- the rules on the parts of a thunk, but for those on its REFs and on the length of its text
abbrev pub keeps_rules : Parts → Bool
keeps_rules t = keeps_numbers t && (keeps_bytes t && (keeps_orders t && keeps_paths t))

-- the parts of a thunk: its REFs are REFs, they keep the rules, and their text is no longer than an object
pub record IsThunk (t : Parts) : Type 0 where
  pub function : IsRef t.function
  pub input_refs : AllByRecursion IsRef (map (λ input. input.1) t.inputs)
  pub rules : IsTrue (keeps_rules t)
  pub size : length (text_of t) ≤ max_size

-- the bytes are the text of the thunk with these parts
pub record Text (bytes : List ℕ) (t : Parts) : Type 0 where
  pub rules : IsThunk t
  pub text : bytes ≡ text_of t
