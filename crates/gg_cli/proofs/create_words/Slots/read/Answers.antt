use Rattle.std.proofs.Common.{string_bytes, arith, length, sym, ◌∙◌}
use Rattle.std.proofs.lemmas.Bool.{eqb-false}
use Rattle.gg_cli.proofs.PartsAreReadInOrder.{parts-found, parts-odd}
use Rattle.gg_cli.proofs.create_words.Slots.read.Goals as goal

pub options-preserved : goal.options-preserved
options-preserved c =
    let found = rw (c.as_bytes.ensures.value, c.as_bytes-in-len2-up.ensures.value) at c.in_ok-more.ensures in
    parts-found string_bytes c.options.given _ c.options.rest.now c.option-item.result c.value-item.result c.in_ok-more.more (omega arith) c.option-item.is c.value-item.is c.options.invariant found

pub returns-then-not-is_empty : goal.returns-then-not-is_empty
returns-then-not-is_empty c =
    let some = eqb-false (length c.options.rest.now) 0 (sym c.is_empty.ensures ∙ c.if-not-is_empty.true) in
    parts-odd string_bytes c.options.given _ c.options.rest.now (omega (arith, some)) (omega arith) c.options.invariant
