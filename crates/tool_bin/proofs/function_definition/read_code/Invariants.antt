use Rattle.std.proofs.Common.{◌≡◌, [], length}
use Rattle.text_lines.specs.Blanks.{words_of}
use Rattle.tool_bin.specs.Compile.{code_with}
use Rattle.tool_bin.proofs.function_definition.read_code.Given as goal

abbrev pub invariant-words : goal.invariant-words
invariant-words l = code_with l.code (words_of l.rest) ≡ code_with [] (words_of l.text)

abbrev pub decreases-words : goal.decreases-words
decreases-words l = length l.rest
