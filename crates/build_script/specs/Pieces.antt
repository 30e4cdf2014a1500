-- The piece of a build line that a refusal shows: from the first byte of a word, as it is written, to the next blank.
use Rattle.std.specs.Prelude.{ℕ, List, [], ◌∷◌, ◌==◌, ◌&&◌, not, Bool, true, false, if◌then◌else◌}
use Rattle.file_tree.specs.Planning.{place_after}
use Rattle.text_lines.specs.Blanks.{is_blank, words_of}
use Rattle.build_script.specs.declared.moves.Mode.{Mode}
use Rattle.build_script.specs.declared.moves.Mode.TheVariants.{Between, Plain, Escaped, Single, Double, DoubleEscaped, Comment}
use Rattle.build_script.specs.declared.moves.Move.{Move}
use Rattle.build_script.specs.declared.moves.Move.TheVariants.{Pass, Take, TakeBoth, End, Refuse}
use Rattle.build_script.specs.Moves.{move_of}

-- whether no word is being read
abbrev pub is_between : Mode → Bool
is_between Between = true
is_between Plain = false
is_between Escaped = false
is_between Single = false
is_between Double = false
is_between DoubleEscaped = false
is_between Comment = false

-- whether a byte between words begins one
abbrev pub begins_word : ℕ → Bool
begins_word byte = not (is_blank byte) && not (byte == 35)

-- where the next byte stands; nothing is looked at behind a byte that is refused
abbrev pub mode_after : Move → Mode
mode_after (Pass mode) = mode
mode_after (Take mode) = mode
mode_after (TakeBoth mode) = mode
mode_after End = Between
mode_after Refuse = Comment

-- the number of the next word
abbrev pub number_after : Move → ℕ → ℕ
number_after (Pass mode) number = number
number_after (Take mode) number = number
number_after (TakeBoth mode) number = number
number_after End number = place_after number
number_after Refuse number = number

-- whether the word `at` begins here, where the next word has this number
abbrev pub is_start : ℕ → ℕ → Mode → ℕ → Bool
is_start at number mode byte = is_between mode && begins_word byte && number == at

-- the line from the first byte of the word `at` on
unfoldable pub from_word : ℕ → ℕ → Mode → List ℕ → List ℕ
from_word at number mode [] = []
from_word at number mode (byte ∷ bytes) =
    if is_start at number mode byte then byte ∷ bytes
    else from_word at (number_after (move_of mode byte) number) (mode_after (move_of mode byte)) bytes

-- the first of some words, or nothing
abbrev pub first_or_nothing : List (List ℕ) → List ℕ
first_or_nothing [] = []
first_or_nothing (word ∷ words) = word

-- what is written of the word `at` of a line, up to the next blank; nothing, where it has no such word
abbrev pub piece_of : List ℕ → ℕ → List ℕ
piece_of line at = first_or_nothing (words_of (from_word at 0 Between line))
