-- What a call that infers the lines of a script has done, by its answer.
use Rattle.std.specs.Prelude.{◌≡◌, ℕ, ◌+◌, min, List, [], ◌∷◌, ◌++◌, Option, Some, None, Result, Ok, Err}
use Rattle.file_tree.specs.declared.model_fault.ApplyFault.{ApplyFault}
use Rattle.file_tree.specs.declared.model_fault.ApplyFault.TheVariants as faults
use Rattle.build_plan.specs.Applying.{Sides, MakesAll, MakesPrefix}
use Rattle.build_plan.specs.Doing.{File, Clash}
use Rattle.build_plan.specs.Symbolic.{Work, begun, symbolic}
use Rattle.blob_store.specs.Keeping.{all_written}
use Rattle.file_tree.specs.Files.{all_changed}
use Rattle.build_script.specs.declared.inferring.Inferred.{Inferred}
use Rattle.build_script.specs.declared.line_fault.LineFault.{LineFault}
use Rattle.build_script.specs.declared.line_fault.LineFault.TheVariants as line_faults
use Rattle.build_script.specs.declared.lines.ScriptLine.{ScriptLine}
use Rattle.build_script.specs.LineCommand.{Halt, AtWord, AtWork}
use Rattle.build_script.specs.Script.{ScriptEnd, Finished, Halted, state_at, line_done, lines_inferred}

-- a number that would pass 4,294,967,295 is that
abbrev pub at_most : ℕ → ℕ
at_most number = min number 4294967295

-- the end of lines inferred from what is told before
abbrev pub end_of : List ScriptLine → Sides → ScriptEnd Work
end_of lines s = lines_inferred lines s.kept_before.store s.files_before.files

-- all lines are done, and all of their work is made
pub record InfersAll (lines : List ScriptLine) (s : Sides) (inferred : Inferred) : Type 0 where
  pub count : ℕ
  pub last : Work
  pub finished : end_of lines s ≡ Finished count last
  pub commands : inferred.commands ≡ at_most count
  pub thunks : inferred.thunks ≡ at_most last.thunks
  pub all : MakesAll last s

-- a line halts so, and all that was done by then is made
pub record HaltsFor (lines : List ScriptLine) (s : Sides) (halt : Halt) : Type 0 where
  pub last : Work
  pub halted : end_of lines s ≡ Halted halt last
  pub all : MakesAll last s

-- what is told from some work on, all of which is made
abbrev pub from_work : Work → Sides → Sides
from_work work s = record s { kept_before = all_written s.kept_before work.writes; files_before = all_changed s.files_before work.changes }

-- the work of the first of some lines alone, from where some work ended
abbrev pub next_work : List ScriptLine → Work → Work
next_work [] work = begun work.store work.files
next_work (line ∷ lines) work = state_at (line_done symbolic line (begun work.store work.files))

-- some of the lines are done and all of their work is made; of the next line's own work a prefix is
pub record InfersSome (lines : List ScriptLine) (s : Sides) : Type 0 where
  pub before : List ScriptLine
  pub behind : List ScriptLine
  pub are : lines ≡ before ++ behind
  pub count : ℕ
  pub last : Work
  pub finished : end_of before s ≡ Finished count last
  pub part : MakesPrefix (next_work behind last) (from_work last s)

-- the number of the first of some lines
abbrev pub first_number : List ScriptLine → Option ℕ
first_number [] = None
first_number (line ∷ lines) = Some line.number

-- the same, where the next line has this number
pub record InfersUpTo (number : ℕ) (lines : List ScriptLine) (s : Sides) : Type 0 where
  pub some : InfersSome lines s
  pub next : first_number some.behind ≡ Some number

-- what a line's fault says of the work
abbrev pub FailsAs : ℕ → List ScriptLine → Sides → ApplyFault → Type 0
FailsAs number lines s (faults.Refused refusal) = HaltsFor lines s (AtWork number (File refusal))
FailsAs number lines s (faults.Reason reason) = ⊥
FailsAs number lines s (faults.Clash name found fresh) = HaltsFor lines s (AtWork number (Clash name found fresh))
FailsAs number lines s faults.StoreFailed = InfersUpTo number lines s
FailsAs number lines s faults.FileFailed = InfersUpTo number lines s
FailsAs number lines s faults.Memory = ⊥

-- what a call did, by its answer; no tool is run, so none fails
abbrev pub InfersAs : List ScriptLine → Sides → Result Inferred LineFault → Type 0
InfersAs lines s (Ok inferred) = InfersAll lines s inferred
InfersAs lines s (Err (line_faults.Word number word reason)) = HaltsFor lines s (AtWord number word reason)
InfersAs lines s (Err (line_faults.Apply number fault)) = FailsAs number lines s fault
InfersAs lines s (Err (line_faults.Tool number status)) = ⊥
InfersAs lines s (Err line_faults.Memory) = InfersSome lines s

-- what a call that infers one line did, by its answer, whatever lines follow
abbrev pub LineInfers : ScriptLine → Sides → Result Inferred LineFault → Type 0
LineInfers line s (Ok inferred) = InfersAll (line ∷ []) s inferred
LineInfers line s (Err fault) = (others : List ScriptLine) → InfersAs (line ∷ others) s (Err fault)

-- the numbers of some lines and of more
abbrev pub added : Inferred → Inferred → Inferred
added some more = record { commands = at_most (some.commands + more.commands); thunks = at_most (some.thunks + more.thunks) }
