use Rattle.tool_bin.proofs.ReadIsRepresentable.{assembled_reads}
use Rattle.tool_bin.proofs.laws.assembled_reads_back.Goals as goal

pub returns : goal.returns
returns c = assembled_reads
