use Rattle.std.proofs.Common.{All, drop, map, string_bytes}
use Rattle.file_tree.specs.Wanted.{IsItem}
use Rattle.gg_cli.proofs.WordsAreReadInOrder.{ReadsItems}
use Rattle.gg_cli.proofs.item_words.read_each.Given as goal

abbrev pub invariant-words : goal.invariant-words
invariant-words l =
    record {
      reads : ReadsItems (map string_bytes l.words) l.items (map string_bytes (drop l.word-index l.words));
      rules : All IsItem l.items;
    }
