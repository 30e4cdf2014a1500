-- A line as words between blanks.
use Rattle.std.specs.Prelude.{ℕ, List, [], ◌∷◌, ◌==◌, ◌||◌, Bool, true, if◌then◌else◌}
use Rattle.text_lines.specs.Lines.{onto}

-- a space or a tab
abbrev pub is_blank : ℕ → Bool
is_blank byte = (byte == 32) || (byte == 9)

-- the first byte is a blank, or there is none
abbrev pub at_blank : List ℕ → Bool
at_blank [] = true
at_blank (byte ∷ bytes) = is_blank byte

-- what comes after the blanks at the beginning
abbrev pub skip_blanks : List ℕ → List ℕ
skip_blanks [] = []
skip_blanks (byte ∷ bytes) = if is_blank byte then skip_blanks bytes else byte ∷ bytes

-- a byte before a text, but for a blank before nothing
abbrev pub before_text : ℕ → List ℕ → List ℕ
before_text byte [] = if is_blank byte then [] else byte ∷ []
before_text byte (other ∷ bytes) = byte ∷ other ∷ bytes

-- without the blanks at the end
abbrev pub without_end : List ℕ → List ℕ
without_end [] = []
without_end (byte ∷ bytes) = before_text byte (without_end bytes)

-- without the blanks at both ends
abbrev pub trimmed : List ℕ → List ℕ
trimmed bytes = without_end (skip_blanks bytes)

-- the words, which blanks separate
abbrev pub words_of : List ℕ → List (List ℕ)
words_of [] = []
words_of (byte ∷ bytes) =
    if is_blank byte then words_of bytes
    else if at_blank bytes then (byte ∷ []) ∷ words_of bytes
    else onto byte (words_of bytes)
