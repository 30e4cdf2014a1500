use Rattle.tool_bin.proofs.ProgramsAreComplete.{program_complete}
use Rattle.tool_bin.proofs.laws.programs_are_complete.Goals as goal

pub returns : goal.returns
returns c = program_complete
