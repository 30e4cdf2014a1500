use Rattle.std.proofs.Common.{rules, string_bytes, sym, ◌∙◌}
use Rattle.gg_cli.proofs.LinkedWordsAreRead.{from-number, from-report, from-worker}
use Rattle.gg_cli.proofs.linked_words.+read_from.Goals as goal

pub returns-then-eq-clause-exact : goal.returns-then-eq-clause-exact
returns-then-eq-clause-exact t c =
    rw (from-report string_bytes c.args.words.now c.in-Some.word.now c.in-Some.behind.now c.in-Some-split_first.value.now c.in-Some-split_first.rest.now c.in-Some.ensures.cases.0 c.in-Some-split_first.ensures.cases.0
    c.args.links c.args.given c.in_ok-more.more (search rules) c.in_ok-more.ensures.exact)
    c.read_from.ensures.exact

pub returns-then-eq-2-clause-exact : goal.returns-then-eq-2-clause-exact
returns-then-eq-2-clause-exact t c =
    rw (from-worker string_bytes c.args.words.now c.in-Some.word.now c.in-Some.behind.now c.in-Some-split_first.value.now c.in-Some-split_first.rest.now c.in-Some.ensures.cases.0 c.in-Some-split_first.ensures.cases.0
    c.args.links c.args.given c.in_ok-more-2.more (search rules) (search rules) (rw c.as_bytes-then-eq-2.ensures.value at c.in_ok-more-2.ensures))
    c.read_from-then-eq-2.ensures.exact

pub returns-in-Some-with_number-clause-exact : goal.returns-in-Some-with_number-clause-exact
returns-in-Some-with_number-clause-exact t c =
    rw (from-number string_bytes c.args.words.now c.in-Some.word.now c.in-Some.behind.now c.in-Some-split_first.value.now c.in-Some-split_first.rest.now c.in-Some.ensures.cases.0 c.in-Some-split_first.ensures.cases.0
    c.args.links c.args.given c.in-Some-with_number.more (search rules) (search rules) (rw (c.as_bytes-3.ensures.value, c.as_bytes-4.ensures.value) at (sym c.with_number.ensures.exact ∙ c.in-Some-with_number.is)))
    c.read_from-in-Some-with_number.ensures.exact
