use Rattle.std.proofs.Common.{◌≡◌, map, string_bytes, length}
use Rattle.gg_cli.specs.ForceWords.{options_of, no_options}
use Rattle.gg_cli.proofs.force_words.read_options.Given as goal

abbrev pub invariant-options : goal.invariant-options
invariant-options l = options_of no_options (map string_bytes l.words) ≡ options_of l.given (map string_bytes l.rest)

abbrev pub decreases-options : goal.decreases-options
decreases-options l = length l.rest
