use Rattle.std.proofs.Common.{◌≡◌, length}
use Rattle.text_lines.specs.Blanks.{without_end}
use Rattle.text_lines.proofs.blanks.without_end.Given as goal

abbrev pub invariant-blanks : goal.invariant-blanks
invariant-blanks l = without_end l.rest ≡ without_end l.text

abbrev pub decreases-blanks : goal.decreases-blanks
decreases-blanks l = length l.rest
