use Rattle.std.proofs.Common.{◌≡◌, map, string_bytes, take}
use Rattle.gg_cli.proofs.words.copied.Given as goal

abbrev pub invariant-words : goal.invariant-words
invariant-words l = l.copies ≡ map string_bytes (take l.word-index l.words)
