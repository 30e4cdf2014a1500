-- Ordinary lines: each identifier that is defined is replaced by its text, once.
use Rattle.std.specs.Prelude.{ℕ, List, [], ◌∷◌, ◌&&◌, Bool, false, Option, bytes_eq, unwrap_or, if◌then◌else◌}
use Rattle.std.specs.List.{flat_map}
use Rattle.thunk_codec.specs.Thunk.{is_identifier}
use Rattle.text_lines.specs.Lines.{onto}
use Rattle.tool_text.specs.Directive.{is_word_byte}

-- what identifiers stand for
abbrev pub Macros : Type 0
Macros = List ℕ → Option (List ℕ)

-- with one identifier defined, or forgotten
abbrev pub with_macro : List ℕ → Option (List ℕ) → Macros → Macros
with_macro name text macros = λ other. if bytes_eq name other then text else macros other

-- whether the first byte is a letter, a digit or `_`
abbrev pub at_word : List ℕ → Bool
at_word [] = false
at_word (byte ∷ bytes) = is_word_byte byte

-- a line as its longest runs of letters, digits and `_`, and its other bytes
abbrev pub pieces_of : List ℕ → List (List ℕ)
pieces_of [] = []
pieces_of (byte ∷ bytes) = if is_word_byte byte && at_word bytes then onto byte (pieces_of bytes) else (byte ∷ []) ∷ pieces_of bytes

-- what stands in the place of a piece: a run that begins with a digit is no identifier
abbrev pub replaced : Macros → List ℕ → List ℕ
replaced macros piece = if is_identifier piece then unwrap_or (macros piece) piece else piece

-- a line with its identifiers replaced; a replacement isn't looked at again
abbrev pub expanded : Macros → List ℕ → List ℕ
expanded macros line = flat_map (replaced macros) (pieces_of line)
