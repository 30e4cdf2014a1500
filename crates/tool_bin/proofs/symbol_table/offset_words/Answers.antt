use Rattle.tool_bin.proofs.TableByCappedOffsets.{words_missed}
use Rattle.tool_bin.proofs.symbol_table.offset_words.Goals as goal

pub returns-in_default : goal.returns-in_default
returns-in_default c = words_missed c.args.first c.args.offsets.now c.offsets.offset-index c.offsets-test.true c.in_default.ensures
