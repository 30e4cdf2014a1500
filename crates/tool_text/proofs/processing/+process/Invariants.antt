use Rattle.std.proofs.Common.{length}
use Rattle.thunk_codec.specs.Files.{files_at}
use Rattle.tool_text.specs.Views.{groups_of, state_of}
use Rattle.tool_text.proofs.FileLines.{Left}
use Rattle.tool_text.proofs.processing.+process.Given as goal

abbrev pub decreases-process : goal.decreases-process
decreases-process l = l.levels

abbrev pub invariant-lines : goal.invariant-lines
invariant-lines l = Left (files_at l.inputs) l.folders l.levels l.path l.rest (groups_of l.groups) (state_of l.state) (state_of l.fn.state)

abbrev pub decreases-lines : goal.decreases-lines
decreases-lines l = length l.rest
