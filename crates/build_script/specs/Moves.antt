-- What each byte of a build line does: blanks and comments, quotes and backslashes, and what is left to a shell.
use Rattle.std.specs.Prelude.{ℕ, ◌==◌, ◌||◌, Bool, codes, if◌then◌else◌}
use Rattle.std.specs.List.{list_any}
use Rattle.text_lines.specs.Blanks.{is_blank}
use Rattle.build_script.specs.declared.moves.Mode.{Mode}
use Rattle.build_script.specs.declared.moves.Mode.TheVariants.{Between, Plain, Escaped, Single, Double, DoubleEscaped, Comment}
use Rattle.build_script.specs.declared.moves.Move.{Move}
use Rattle.build_script.specs.declared.moves.Move.TheVariants.{Pass, Take, TakeBoth, End, Refuse}

-- `;`, `&`, `|`, `<`, `>`, `$`, `(`, `)`, `*`, `?`, `[`, `~` and the grave accent, outside quotes
abbrev pub is_shell : ℕ → Bool
is_shell byte = list_any (λ other. byte == other) (codes ";&|<>$()*?[~`")

-- `$` and the grave accent are the shell's between double quotes too
abbrev pub is_expanding : ℕ → Bool
is_expanding byte = (byte == 36) || (byte == 96)

-- the bytes that a backslash makes literal between double quotes: `"`, `\`, `$` and the grave accent
abbrev pub is_escapable : ℕ → Bool
is_escapable byte = (byte == 34) || (byte == 92) || is_expanding byte

-- a byte of a word outside quotes: a backslash or a quote, a byte that is refused, or a literal one
unfoldable pub plain_move : ℕ → Move
plain_move byte =
    if byte == 92 then Pass Escaped
    else if byte == 39 then Pass Single
    else if byte == 34 then Pass Double
    else if byte == 0 then Refuse
    else if is_shell byte then Refuse
    else Take Plain

-- a byte between words: a blank, `#`, which begins a comment, or the first of a word
unfoldable pub first_move : ℕ → Move
first_move byte =
    if is_blank byte then Pass Between
    else if byte == 35 then Pass Comment
    else plain_move byte

-- a byte between double quotes: the end, a backslash, a byte that is refused, or a literal one
unfoldable pub double_move : ℕ → Move
double_move byte =
    if byte == 34 then Pass Plain
    else if byte == 92 then Pass DoubleEscaped
    else if byte == 0 then Refuse
    else if is_expanding byte then Refuse
    else Take Double

-- a byte behind a backslash between double quotes: literal, or the backslash is itself
unfoldable pub after_backslash : ℕ → Move
after_backslash byte =
    if byte == 0 then Refuse
    else if is_escapable byte then Take Double
    else TakeBoth Double

-- a byte by where it stands: in a word outside quotes a blank ends the word; a backslash there makes the next byte literal; between single
-- quotes all bytes are literal, and in a comment none is looked at. A zero byte is refused everywhere but there
abbrev pub move_of : Mode → ℕ → Move
move_of Between byte = first_move byte
move_of Plain byte = if is_blank byte then End else plain_move byte
move_of Escaped byte = if byte == 0 then Refuse else Take Plain
move_of Single byte = if byte == 39 then Pass Plain else if byte == 0 then Refuse else Take Single
move_of Double byte = double_move byte
move_of DoubleEscaped byte = after_backslash byte
move_of Comment byte = Pass Comment
