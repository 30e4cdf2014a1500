-- The directives of the preprocessor: lines whose first byte that isn't a blank is `#`.
use Rattle.std.specs.Prelude.{ℕ, List, [], ◌∷◌, ◌==◌, ◌||◌, ◌&&◌, not, nat_le, Bool, Option, Some, None, length, drop, bytes_eq, codes, if◌then◌else◌}
use Rattle.std.specs.List.{take_while}
use Rattle.object_name.specs.Number.{number_of}
use Rattle.text_lines.specs.Cuts.{split_at_byte, strip_prefix}
use Rattle.text_lines.specs.Maybe.{◌>>=◌, ◌>>◌, check}
use Rattle.thunk_codec.specs.Thunk.{is_letter, is_digit, is_identifier}
use Rattle.text_lines.specs.Blanks.{skip_blanks, trimmed, at_blank}

-- the file that an include line asks for, between quotes or between angle brackets
pub data Target : Type 0 where
  Quoted : List ℕ → Target
  Angled : List ℕ → Target

-- what a line says; a directive that isn't of its form says nothing, or false
pub data Directive : Type 0 where
  Text : Directive
  Empty : Directive
  Include : Option Target → Directive
  Define : Option (List ℕ × List ℕ) → Directive
  Undef : Option (List ℕ) → Directive
  Ifdef : Option (List ℕ) → Directive
  Ifndef : Option (List ℕ) → Directive
  If : Option ℕ → Directive
  Else : Bool → Directive
  Endif : Bool → Directive
  Unknown : Directive

-- what comes after the longest run of such bytes at the beginning
abbrev pub after_while : (ℕ → Bool) → List ℕ → List ℕ
after_while test text = drop (length (take_while test text)) text

-- whether a byte is an ASCII letter
abbrev pub is_alphabetic : ℕ → Bool
is_alphabetic byte = (nat_le 65 byte && nat_le byte 90) || (nat_le 97 byte && nat_le byte 122)

-- whether a byte is a letter, a digit or `_`
abbrev pub is_word_byte : ℕ → Bool
is_word_byte byte = is_letter byte || is_digit byte

-- the text before a closing byte; it isn't empty, and what comes after that byte is passed over
abbrev pub closed_by : ℕ → List ℕ → Option (List ℕ)
closed_by byte text = do
  cut ← split_at_byte byte text
  check (not (bytes_eq cut.0 []))
  Some cut.0

-- `"F"` or `<F>`
abbrev pub target_of : List ℕ → Option Target
target_of [] = None
target_of (first ∷ text) =
    if first == 34 then (closed_by 34 text >>= λ file. Some (Quoted file))
    else if first == 60 then (closed_by 62 text >>= λ file. Some (Angled file))
    else None

-- one identifier and blanks
abbrev pub identifier_in : List ℕ → Option (List ℕ)
identifier_in text = do
  check (is_identifier (trimmed text))
  Some (trimmed text)

-- an identifier, and then the end, or blanks and what it stands for, without blanks at its ends
abbrev pub definition_in : List ℕ → Option (List ℕ × List ℕ)
definition_in text = do
  let name = take_while is_word_byte text in do
    check (is_identifier name)
    check (at_blank (after_while is_word_byte text))
    Some (name, trimmed (after_while is_word_byte text))

-- whether there is nothing but blanks
abbrev pub is_all_blank : List ℕ → Bool
is_all_blank text = bytes_eq (skip_blanks text) []

-- the directive of a word and of what comes after it
unfoldable pub worded : List ℕ → List ℕ → Directive
worded word rest =
    if bytes_eq word (codes "include") then Include (target_of (skip_blanks rest))
    else if bytes_eq word (codes "define") then Define (definition_in (skip_blanks rest))
    else if bytes_eq word (codes "undef") then Undef (identifier_in rest)
    else if bytes_eq word (codes "ifdef") then Ifdef (identifier_in rest)
    else if bytes_eq word (codes "ifndef") then Ifndef (identifier_in rest)
    else if bytes_eq word (codes "if") then If (number_of (trimmed rest))
    else if bytes_eq word (codes "else") then Else (is_all_blank rest)
    else if bytes_eq word (codes "endif") then Endif (is_all_blank rest)
    else Unknown

-- the directive of what comes after `#` and blanks
unfoldable pub marked : List ℕ → Directive
marked [] = Empty
marked (byte ∷ text) = worded (take_while is_alphabetic (byte ∷ text)) (after_while is_alphabetic (byte ∷ text))

-- what a line says
unfoldable pub directive : Option (List ℕ) → Directive
directive None = Text
directive (Some rest) = marked (skip_blanks rest)

-- the same of the whole line
abbrev pub directive_of : List ℕ → Directive
directive_of line = directive (strip_prefix (codes "#") (skip_blanks line))
