use Rattle.std.proofs.Common.{refl}
use Rattle.gg_cli.specs.ItemWords.{item_of, output_item}
use Rattle.gg_cli.proofs.PartsAreReadInOrder.{refused_whole}
use Rattle.gg_cli.proofs.item_words.read_output.Goals as goal

pub returns-in_err-item-clause-exact : goal.returns-in_err-item-clause-exact
returns-in_err-item-clause-exact c = refused_whole (item_of c.args.word.now) output_item _ refl _ c.in_err-item.ensures.exact _ c.from_residual.ensures
