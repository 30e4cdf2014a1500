-- The words of a build line, or the refusal of the first of them that a shell would do something with.
use Rattle.std.specs.Prelude.{ℕ, min, List, [], ◌∷◌, ◌++◌, length, Result, Ok, Err}
use Rattle.file_tree.specs.Planning.{◌>>=◌}
use Rattle.file_tree.specs.declared.model_fault.Reason.TheVariants.{Shell}
use Rattle.file_tree.specs.declared.model_fault.PlanFault.{PlanFault}
use Rattle.file_tree.specs.declared.model_fault.PlanFault.TheVariants.{Refused}
use Rattle.build_script.specs.declared.moves.Mode.{Mode}
use Rattle.build_script.specs.declared.moves.Mode.TheVariants.{Between, Plain, Escaped, Single, Double, DoubleEscaped, Comment}
use Rattle.build_script.specs.declared.moves.Move.{Move}
use Rattle.build_script.specs.declared.moves.Move.TheVariants.{Pass, Take, TakeBoth, End, Refuse}
use Rattle.build_script.specs.declared.line_words.LineWords.{LineWords}
use Rattle.build_script.specs.Moves.{move_of}

-- nothing is read
abbrev pub no_bytes : LineWords
no_bytes = record { mode = Between; words = []; word = [] }

-- the number of the word that is read, from 0; a number that would pass 4,294,967,295 is that
abbrev pub number_of : ℕ → ℕ
number_of count = min count 4294967295

-- the word that is read is refused
abbrev pub shell_refusal : LineWords → PlanFault
shell_refusal given = Refused (number_of (length given.words)) Shell

-- the word that is read is complete
abbrev pub word_ended : LineWords → LineWords
word_ended given = record { mode = Between; words = given.words ++ given.word ∷ []; word = [] }

-- what a byte does
abbrev pub with_move : Move → ℕ → LineWords → Result LineWords PlanFault
with_move (Pass mode) byte given = Ok (record given { mode = mode })
with_move (Take mode) byte given = Ok (record given { mode = mode; word = given.word ++ byte ∷ [] })
with_move (TakeBoth mode) byte given = Ok (record given { mode = mode; word = given.word ++ 92 ∷ byte ∷ [] })
with_move End byte given = Ok (word_ended given)
with_move Refuse byte given = Err (shell_refusal given)

-- some bytes, one after another
abbrev pub with_bytes : List ℕ → LineWords → Result LineWords PlanFault
with_bytes [] given = Ok given
with_bytes (byte ∷ bytes) given = with_move (move_of given.mode byte) byte given >>= λ more. with_bytes bytes more

-- the words at the end of the line: a quote that is open and a backslash without a byte behind it are refused
abbrev pub ended_in : Mode → LineWords → Result (List (List ℕ)) PlanFault
ended_in Between given = Ok given.words
ended_in Plain given = Ok (given.words ++ given.word ∷ [])
ended_in Escaped given = Err (shell_refusal given)
ended_in Single given = Err (shell_refusal given)
ended_in Double given = Err (shell_refusal given)
ended_in DoubleEscaped given = Err (shell_refusal given)
ended_in Comment given = Ok given.words

-- the words of a line
abbrev pub words_of : List ℕ → Result (List (List ℕ)) PlanFault
words_of line = with_bytes line no_bytes >>= λ given. ended_in given.mode given
