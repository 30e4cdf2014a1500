use Rattle.std.proofs.Common.{◌≡◌, map, string_bytes, length}
use Rattle.gg_cli.specs.CreateWords.{no_parts, with_parts}
use Rattle.gg_cli.proofs.create_words.Slots.read.Given as goal

abbrev pub invariant-options : goal.invariant-options
invariant-options l = with_parts no_parts (map string_bytes l.words) ≡ with_parts l.given (map string_bytes l.rest)

abbrev pub decreases-options : goal.decreases-options
decreases-options l = length l.rest
