-- The parts of what a command line does: a command on its own has one, a script has one for each line that is begun.
use Rattle.std.specs.Prelude.{List, [], ◌∷◌, ◌++◌}
use Rattle.blob_store.specs.Store.{Write}
use Rattle.file_tree.specs.declared.change.Change.{Change}
use Rattle.build_plan.specs.Symbolic.{Work}
use Rattle.build_plan.specs.Way.{Way}
use Rattle.build_script.specs.declared.lines.ScriptLine.{ScriptLine}
use Rattle.build_script.specs.AtOnce.{Ran}
use Rattle.build_script.specs.Script.{ScriptEnd, Finished, Halted, line_done}

-- one part: first its writes to the store in order, and then its changes of files in order
pub record Part : Type 0 where
  pub writes : List Write
  pub changes : List Change

-- all writes of some parts
abbrev pub all_writes : List Part → List Write
all_writes [] = []
all_writes (part ∷ parts) = part.writes ++ all_writes parts

-- all changes of some parts
abbrev pub all_changes : List Part → List Change
all_changes [] = []
all_changes (part ∷ parts) = part.changes ++ all_changes parts

-- a part that does nothing
abbrev pub no_part : Part
no_part = record { writes = []; changes = [] }

-- one part that is all
abbrev pub one_part : List Write → List Change → List Part
one_part writes changes = record { writes = writes; changes = changes } ∷ []

-- the first of some parts
abbrev pub first_part : List Part → Part
first_part [] = no_part
first_part (part ∷ parts) = part

-- ---- lines

-- a line's part, and those of the lines behind it where the line is done
abbrev pub part_then : {S : Type 0} → (S → Part) → ScriptEnd S → (S → List Part) → List Part
part_then part (Finished count s) behind = part s ∷ behind s
part_then part (Halted halt s) behind = part s ∷ []

module _ {S A : Type 0} (way : Way S A) (afresh : S → S) (part : S → Part) where
  -- the parts of lines: each line's own work alone, from where the line before ended
  abbrev pub line_parts : List ScriptLine → S → List Part
  line_parts [] s = []
  line_parts (line ∷ lines) s = part_then part (line_done way line (afresh s)) (λ after. line_parts lines after)

-- what inferring did
abbrev pub work_part : Work → Part
work_part work = record { writes = work.writes; changes = work.changes }

-- what building at once did, which writes nothing to the store
abbrev pub ran_part : Ran → Part
ran_part ran = record { writes = []; changes = ran.changes }
