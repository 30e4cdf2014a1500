use Rattle.std.proofs.Common.{◌≡◌, length}
use Rattle.thunk_codec.specs.Files.{files_at}
use Rattle.tool_text.specs.Including.{first_there}
use Rattle.tool_text.proofs.candidate_paths.first_there.Given as goal

abbrev pub invariant-candidates : goal.invariant-candidates
invariant-candidates l = first_there (files_at l.inputs) l.rest ≡ first_there (files_at l.inputs) l.candidates

abbrev pub decreases-candidates : goal.decreases-candidates
decreases-candidates l = length l.rest
