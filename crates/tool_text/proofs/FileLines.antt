-- The lines of a file in order, as a loop takes them.
use Rattle.std.proofs.Common.{◌≡◌, ℕ, ◌-◌, List, Result}
use Rattle.thunk_codec.specs.Files.{Files}
use Rattle.text_lines.specs.Lines.{lines_of}
use Rattle.tool_text.specs.declared.failure.Failure.{Failure}
use Rattle.tool_text.specs.declared.groups.Group.{Group}
use Rattle.tool_text.specs.Directive.{Target}
use Rattle.tool_text.specs.Preprocess.{State, ran, going_into, processed}

-- how a file with so many levels goes into others
abbrev pub into : Files → List (List ℕ) → ℕ → List ℕ → Target → State → Result State Failure
into files folders levels path = going_into (λ found now. processed files folders (levels - 1) found now) files folders path

-- what is left of a file's lines gives what the file gives
pub record Left (files : Files) (folders : List (List ℕ)) (levels : ℕ) (path rest : List ℕ) (groups : List Group) (state before : State) : Type 0 where
  pub gives : ran (into files folders levels path) (lines_of rest) groups state ≡ processed files folders levels path before
