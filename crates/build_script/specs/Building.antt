-- What a call that builds the lines of a script at once has done, by its answer.
use Rattle.std.specs.Prelude.{◌≡◌, ℕ, List, [], ◌∷◌, ◌++◌, Some, Result, Ok, Err}
use Rattle.file_tree.specs.Files.{Filed, ChangesPrefix, all_changed}
use Rattle.file_tree.specs.declared.model_fault.ApplyFault.{ApplyFault}
use Rattle.file_tree.specs.declared.model_fault.ApplyFault.TheVariants as faults
use Rattle.sandbox_run.specs.Cards.{card_outcome}
use Rattle.build_plan.specs.Doing.{File, Tool}
use Rattle.build_script.specs.declared.line_fault.LineFault.{LineFault}
use Rattle.build_script.specs.declared.line_fault.LineFault.TheVariants as line_faults
use Rattle.build_script.specs.declared.lines.ScriptLine.{ScriptLine}
use Rattle.build_script.specs.AtOnce.{Ran, not_run, at_once}
use Rattle.build_script.specs.Inferring.{at_most, first_number}
use Rattle.build_script.specs.LineCommand.{Halt, AtWord, AtWork}
use Rattle.build_script.specs.Script.{ScriptEnd, Finished, Halted, state_at, line_done, lines_built}
use Rattle.build_script.specs.WholeTree.{cpp_whole}

-- the end of lines built at once by the tools of cards
abbrev pub end_of : List ScriptLine → Filed → ScriptEnd Ran
end_of lines before = lines_built card_outcome cpp_whole lines before.files

-- all lines are done, and all of their changes are made
pub record BuildsAll (lines : List ScriptLine) (before after : Filed) (commands : ℕ) : Type 0 where
  pub count : ℕ
  pub last : Ran
  pub finished : end_of lines before ≡ Finished count last
  pub number : commands ≡ at_most count
  pub all : after ≡ all_changed before last.changes

-- a line halts so, and all changes of the lines before are made
pub record HaltsFor (lines : List ScriptLine) (before after : Filed) (halt : Halt) : Type 0 where
  pub last : Ran
  pub halted : end_of lines before ≡ Halted halt last
  pub all : after ≡ all_changed before last.changes

-- the changes of the first of some lines alone, from where others ended
abbrev pub next_work : List ScriptLine → Ran → Ran
next_work [] ran = not_run ran.files
next_work (line ∷ lines) ran = state_at (line_done (at_once card_outcome cpp_whole) line (not_run ran.files))

-- some of the lines are done and all of their changes are made; of the next line's own changes a prefix is
pub record BuildsSome (lines : List ScriptLine) (before after : Filed) : Type 0 where
  pub first : List ScriptLine
  pub behind : List ScriptLine
  pub are : lines ≡ first ++ behind
  pub count : ℕ
  pub last : Ran
  pub finished : end_of first before ≡ Finished count last
  pub part : ChangesPrefix (next_work behind last).changes (all_changed before last.changes) after

-- the same, where the next line has this number
pub record BuildsUpTo (number : ℕ) (lines : List ScriptLine) (before after : Filed) : Type 0 where
  pub some : BuildsSome lines before after
  pub next : first_number some.behind ≡ Some number

-- what a line's fault says of the work
abbrev pub FailsAs : ℕ → List ScriptLine → Filed → Filed → ApplyFault → Type 0
FailsAs number lines before after (faults.Refused refusal) = HaltsFor lines before after (AtWork number (File refusal))
FailsAs number lines before after (faults.Reason reason) = ⊥
FailsAs number lines before after (faults.Clash name found fresh) = ⊥
FailsAs number lines before after faults.StoreFailed = ⊥
FailsAs number lines before after faults.FileFailed = BuildsUpTo number lines before after
FailsAs number lines before after faults.Memory = ⊥

-- what a call did, by its answer
abbrev pub BuildsAs : List ScriptLine → Filed → Filed → Result ℕ LineFault → Type 0
BuildsAs lines before after (Ok commands) = BuildsAll lines before after commands
BuildsAs lines before after (Err (line_faults.Word number word reason)) = HaltsFor lines before after (AtWord number word reason)
BuildsAs lines before after (Err (line_faults.Apply number fault)) = FailsAs number lines before after fault
BuildsAs lines before after (Err (line_faults.Tool number status)) = HaltsFor lines before after (AtWork number (Tool status))
BuildsAs lines before after (Err line_faults.Memory) = BuildsSome lines before after
