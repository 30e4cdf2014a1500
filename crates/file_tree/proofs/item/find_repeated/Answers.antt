use Rattle.std.proofs.Common.{Some, ap, sym, ◌∙◌}
use Rattle.file_tree.proofs.FirstRepeated.{is_repeated, not_repeated, none_repeated}
use Rattle.file_tree.proofs.item.find_repeated.Goals as goal

pub returns-then-contains : goal.returns-then-contains
returns-then-contains c =
    ap Some c.in_ok-text_of.ensures ∙ sym (is_repeated c.args.items.now c.items.item-index c.items.seen.keys c.items.invariant c.item-item.result c.in_ok-full.full c.items-test.true c.item-item.is c.in_ok-full.ensures
    (sym c.contains.ensures ∙ c.if-contains.true))

pub items-preserved : goal.items-preserved
items-preserved c =
    not_repeated c.args.items.now c.items.item-index c.items.seen.keys c.items.invariant c.item-item.result c.in_ok-full.full c.items-test.true c.item-item.is c.in_ok-full.ensures c.insert.new.self.keys
    (sym c.contains.ensures ∙ c.if-contains.false) c.in_ok-insert.ensures.updates.0

pub returns : goal.returns
returns c = sym (none_repeated c.args.items.now c.items.item-index c.items.seen.keys c.items.invariant c.items-test.false)
