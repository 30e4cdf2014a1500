-- A text of build lines, cut at each line feed; a backslash before a line feed joins two lines, whatever stands around it.
use Rattle.std.specs.Prelude.{ℕ, List, [], ◌∷◌, ◌++◌, ◌==◌, Bool, true, false, if◌then◌else◌}
use Rattle.file_tree.specs.Planning.{place_after}
use Rattle.build_script.specs.declared.lines.ScriptLine.{ScriptLine}
use Rattle.build_script.specs.declared.lines.ScriptLines.{ScriptLines}

-- nothing is read: the first line has the number 1, and no backslash waits for the byte behind it
abbrev pub no_lines : ScriptLines
no_lines = record { lines = []; first = 1; number = 1; text = []; has_backslash = false }

-- one byte more of the line that is read
abbrev pub with_text : List ℕ → ScriptLines → ScriptLines
with_text bytes given = record given { text = given.text ++ bytes; has_backslash = false }

-- the line is complete, under the number of the first of those that were joined
abbrev pub line_ended : ScriptLines → ScriptLines
line_ended given = record {
  lines = given.lines ++ record { number = given.first; text = given.text } ∷ [];
  first = place_after given.number;
  number = place_after given.number;
  text = [];
  has_backslash = false;
}

-- the next line is joined to this one
abbrev pub joined : ScriptLines → ScriptLines
joined given = record given { number = place_after given.number; has_backslash = false }

-- a byte that is behind no backslash: a line feed, a backslash, or another
unfoldable pub after_other : ℕ → ScriptLines → ScriptLines
after_other byte given =
    if byte == 10 then line_ended given
    else if byte == 92 then record given { has_backslash = true }
    else with_text (byte ∷ []) given

-- a byte behind a backslash: a line feed goes with the backslash, and before another byte the backslash is one of the line
unfoldable pub after_backslash : ℕ → ScriptLines → ScriptLines
after_backslash byte given = if byte == 10 then joined given else after_other byte (with_text (92 ∷ []) given)

-- one byte more
abbrev pub with_byte : Bool → ℕ → ScriptLines → ScriptLines
with_byte true byte given = after_backslash byte given
with_byte false byte given = after_other byte given

-- some bytes, one after another
abbrev pub with_bytes : List ℕ → ScriptLines → ScriptLines
with_bytes [] given = given
with_bytes (byte ∷ bytes) given = with_bytes bytes (with_byte given.has_backslash byte given)

-- a backslash at the end of the text is one of the last line
abbrev pub at_end : Bool → ScriptLines → ScriptLines
at_end true given = line_ended (with_text (92 ∷ []) given)
at_end false given = line_ended given

-- the lines of a text, each with the number of the first of those that were joined; the last needs no line feed
abbrev pub script_lines : List ℕ → List ScriptLine
script_lines text = let given = with_bytes text no_lines in (at_end given.has_backslash given).lines
