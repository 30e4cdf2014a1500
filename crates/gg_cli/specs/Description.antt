-- What is printed of a thunk: a line for each part, in order.
use Rattle.std.specs.Prelude.{ℕ, suc, List, [], ◌∷◌, ◌++◌, ◌==◌, ◌&&◌, not, nat_le, Bool, codes, decimal, if◌then◌else◌}
use Rattle.std.specs.List.{flat_map}
use Rattle.hex.specs.Hex.{encode_lower}
use Rattle.object_name.specs.Name.{ObjectName, spelling}
use Rattle.thunk_codec.specs.declared.reference.Ref.{Ref}
use Rattle.thunk_codec.specs.Reference.{ref_text}
use Rattle.thunk_codec.specs.Thunk.{Parts}

-- a byte that is printed as it is: 32 to 126, but for the backslash
abbrev pub is_plain : ℕ → Bool
is_plain byte = nat_le 32 byte && (nat_le byte 126 && not (byte == 92))

-- a byte as it is printed: another one is `\x` and two lower-case hexadecimal digits
abbrev pub escaped_byte : ℕ → List ℕ
escaped_byte byte = if is_plain byte then byte ∷ [] else 92 ∷ 120 ∷ encode_lower (byte ∷ [])

-- a text as it is printed
unfoldable pub escaped : List ℕ → List ℕ
escaped text = flat_map escaped_byte text

-- a line: what it is about, a space, what it says, and a line feed
abbrev pub labelled : List ℕ → List ℕ → List ℕ
labelled label said = label ++ (32 ∷ (said ++ 10 ∷ []))

-- `argument TEXT`
abbrev pub argument_line : List ℕ → List ℕ
argument_line arg = labelled (codes "argument") (escaped arg)

-- `environment KEY=VALUE`
abbrev pub environment_line : List ℕ × List ℕ → List ℕ
environment_line env = labelled (codes "environment") (env.0 ++ (61 ∷ escaped env.1))

-- `input PATH REF`
abbrev pub input_line : List ℕ × Ref → List ℕ
input_line input = labelled (codes "input") (input.0 ++ (32 ∷ ref_text input.1))

-- `output K NAME`, from a number on
abbrev pub output_lines : ℕ → List (List ℕ) → List ℕ
output_lines index [] = []
output_lines index (output ∷ outputs) = labelled (codes "output") (decimal index ++ (32 ∷ output)) ++ output_lines (suc index) outputs

-- `thunk NAME` and `function REF`
abbrev pub head_lines : ObjectName → Ref → List ℕ
head_lines name function = labelled (codes "thunk") (spelling name) ++ labelled (codes "function") (ref_text function)

-- the text of a thunk of this name
unfoldable pub description : ObjectName → Parts → List ℕ
description name thunk = head_lines name thunk.function ++ (flat_map argument_line thunk.args ++ (flat_map environment_line thunk.envs
    ++ (flat_map input_line thunk.inputs ++ output_lines 0 thunk.outputs)))
