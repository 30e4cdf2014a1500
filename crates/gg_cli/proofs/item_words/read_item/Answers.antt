use Rattle.std.proofs.Common.{sym, ◌∙◌}
use Rattle.gg_cli.proofs.WordsAreReadInOrder.{item_of-option, item_of-ref, item_of-path, item_of-none}
use Rattle.gg_cli.proofs.item_words.read_item.Goals as goal

pub returns-then-starts_with-clause-exact : goal.returns-then-starts_with-clause-exact
returns-then-starts_with-clause-exact c = item_of-option c.args.word.now (sym c.starts_with.ensures.value ∙ c.if-starts_with.true)

pub returns-in-Some-clause-exact : goal.returns-in-Some-clause-exact
returns-in-Some-clause-exact c = item_of-ref c.args.word.now c.in-Some.reference (sym c.starts_with.ensures.value ∙ c.if-starts_with.false) (sym c.read.ensures.exact ∙ c.in-Some.is)

pub returns-in-Some-2-clause-exact : goal.returns-in-Some-2-clause-exact
returns-in-Some-2-clause-exact c =
    item_of-path c.args.word.now c.in-Some-2.path (sym c.starts_with.ensures.value ∙ c.if-starts_with.false) (sym c.read.ensures.exact ∙ c.in_default.is) (sym c.in_ok-path.ensures ∙ c.in-Some-2.is)

pub returns-in-None-clause-exact : goal.returns-in-None-clause-exact
returns-in-None-clause-exact c =
    item_of-none c.args.word.now (sym c.starts_with.ensures.value ∙ c.if-starts_with.false) (sym c.read.ensures.exact ∙ c.in_default.is) (sym c.in_ok-path.ensures ∙ c.in-None.is)
