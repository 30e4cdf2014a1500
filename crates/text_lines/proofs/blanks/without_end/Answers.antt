use Rattle.std.proofs.Common.{sym}
use Rattle.text_lines.proofs.BlankLemmas.{end_goes_on, end_stops}
use Rattle.text_lines.proofs.blanks.without_end.Goals as goal

pub returns-then-not-is_blank : goal.returns-then-not-is_blank
returns-then-not-is_blank c =
    end_stops c.args.text.now c.blanks.rest.now c.in-Some.before.now c.in-Some.last.now c.blanks.invariant c.in-Some.ensures.cases.0 (sym c.if-not-is_blank.ensures)

pub blanks-preserved : goal.blanks-preserved
blanks-preserved c =
    end_goes_on c.args.text.now c.blanks.rest.now c.in-Some.before.now c.in-Some.last.now c.blanks.invariant c.in-Some.ensures.cases.0 (sym c.if-not-is_blank.ensures)
