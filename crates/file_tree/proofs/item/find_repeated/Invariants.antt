use Rattle.file_tree.proofs.FirstRepeated.{HasLooked}
use Rattle.file_tree.proofs.item.find_repeated.Given as goal

abbrev pub invariant-items : goal.invariant-items
invariant-items l = HasLooked l.items l.item-index l.seen.keys
