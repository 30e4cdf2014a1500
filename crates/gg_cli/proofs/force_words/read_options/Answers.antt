use Rattle.std.proofs.Common.{string_bytes, sym, ◌∙◌, arith}
use Rattle.gg_cli.proofs.WordsAreReadInOrder.{options_of-more}
use Rattle.gg_cli.proofs.force_words.read_options.Goals as goal

pub options-preserved : goal.options-preserved
options-preserved c =
    let more = rw (c.as_bytes.ensures.value, c.as_bytes-in-options.ensures.value) at (sym c.with_option.ensures ∙ c.in-Some.is) in
    c.options.invariant ∙ options_of-more string_bytes c.options.given c.in-Some.more c.options.rest.now c.word-item.result c.value-item.result (omega arith) c.word-item.is c.value-item.is more
