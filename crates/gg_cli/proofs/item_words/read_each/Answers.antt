use Rattle.std.proofs.Common.{string_bytes}
use Rattle.std.proofs.lemmas.List.Elements.{All-push}
use Rattle.file_tree.specs.Wanted.{IsItem}
use Rattle.gg_cli.proofs.WordsAreReadInOrder.{ReadsItems-more, ReadsItems-refused, ReadsItems-all}
use Rattle.gg_cli.proofs.item_words.read_each.Goals as goal

pub returns-in_err-item-clause-exact : goal.returns-in_err-item-clause-exact
returns-in_err-item-clause-exact c =
    ReadsItems-refused string_bytes c.args.words.now c.words.word-index c.words.items c.words.invariant.reads c.word-item.result c.words-test.true c.word-item.is _
    (rw c.as_bytes.ensures.value at c.in_err-item.ensures.exact) _ c.from_residual.ensures _ (λ none. none)

pub words-preserved : goal.words-preserved
words-preserved c =
    rw c.in_ok-push.ensures.ok (record {
      reads = ReadsItems-more string_bytes c.args.words.now c.words.word-index c.words.items c.words.invariant.reads c.word-item.result c.in_ok-item.item c.words-test.true c.word-item.is (rw c.as_bytes.ensures.value at c.in_ok-item.ensures.exact);
      rules = All-push IsItem c.words.items c.in_ok-item.item c.words.invariant.rules c.in_ok-item.ensures.rules;
    })

pub returns-clause-exact : goal.returns-clause-exact
returns-clause-exact c = ReadsItems-all string_bytes c.args.words.now c.words.word-index c.words.items c.words.invariant.reads c.words-test.false
