use Rattle.std.proofs.Common.{map, refl, string_bytes}
use Rattle.gg_cli.specs.CreateWords.{create_of, no_parts, recipe_of, with_parts}
use Rattle.gg_cli.specs.Reading.{Finds}
use Rattle.gg_cli.proofs.PartsAreReadInOrder.{refused_whole}
use Rattle.gg_cli.proofs.RecipesAreFit.{finds_command}
use Rattle.gg_cli.proofs.create_words.read_create.Goals as goal

pub returns-in_err-given-clause-exact : goal.returns-in_err-given-clause-exact
returns-in_err-given-clause-exact c = refused_whole (with_parts no_parts (map string_bytes c.args.words.now)) recipe_of _ refl _ c.in_err-given.ensures _ c.from_residual.ensures

pub returns-clause-rules : goal.returns-clause-rules
returns-clause-rules c =
    let exact : Finds c.into_command.result (create_of (map string_bytes c.args.words.now)) = rw c.in_ok-given.ensures c.into_command.ensures in
    finds_command (map string_bytes c.args.words.now) c.into_command.result exact
