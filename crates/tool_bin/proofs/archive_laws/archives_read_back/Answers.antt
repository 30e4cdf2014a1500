use Rattle.tool_bin.proofs.ArchivesReadBack.{read_back}
use Rattle.tool_bin.proofs.archive_laws.archives_read_back.Goals as goal

pub returns : goal.returns
returns c = read_back
