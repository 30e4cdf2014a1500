use Rattle.std.proofs.Common.{◌≡◌, ◌+◌, take, map, true}
use Rattle.std.specs.List.{flat_map, list_all}
use Rattle.thunk_codec.specs.Job.{encoded_count}
use Rattle.tool_bin.specs.SymbolTable.{fits_word}
use Rattle.tool_bin.proofs.symbol_table.offset_words.Given as goal

abbrev pub invariant-offsets : goal.invariant-offsets
invariant-offsets l = record {
  words : l.words ≡ flat_map encoded_count (map (λ offset. l.first + offset) (take l.offset-index l.offsets));
  fit : list_all fits_word (map (λ offset. l.first + offset) (take l.offset-index l.offsets)) ≡ true;
}
