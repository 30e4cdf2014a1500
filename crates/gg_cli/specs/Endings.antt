-- How a command line ends: the exit status, and the line of each fault. A new status is a line of `code_of` and one of `ending_of`,
-- a new refusal one of `refusal_ending`, `file_text` or `reason_text`.
use Rattle.std.specs.Prelude.{ℕ, List, [], ◌∷◌, ◌++◌, codes, decimal}
use Rattle.object_name.specs.Name.{spelling}
use Rattle.file_tree.specs.declared.model_fault.Reason.{Reason}
use Rattle.file_tree.specs.declared.model_fault.Reason.TheVariants as reasons
use Rattle.file_tree.specs.declared.refusal.FileRefusal.{FileRefusal}
use Rattle.file_tree.specs.declared.refusal.FileRefusal.TheVariants as files
use Rattle.need_eval.specs.declared.fault.Refusal.{Refusal}
use Rattle.need_eval.specs.declared.fault.Refusal.TheVariants as refusals
use Rattle.gg_cli.specs.declared.fault.TopFault.{TopFault}
use Rattle.gg_cli.specs.declared.fault.TopFault.TheVariants.{Usage, FileRefused, Refused, NotModelled, LineNotModelled, ToolFailed, Clash, InputTooLong, StoreFailed, FileFailed, InputFailed, OutputFailed, Memory}
use Rattle.gg_cli.specs.declared.status.Status.{Status}
use Rattle.gg_cli.specs.declared.status.Status.TheVariants as statuses

-- the exit status of the program: 0 where all is done, and a number of its own for each other end
abbrev pub code_of : Status → ℕ
code_of statuses.Done = 0
code_of statuses.FunctionFailed = 1
code_of statuses.Usage = 2
code_of statuses.Missing = 3
code_of statuses.BadThunk = 4
code_of statuses.NoOutput = 5
code_of statuses.Spent = 6
code_of statuses.TooBig = 7
code_of statuses.FileRefused = 8
code_of statuses.NotModelled = 9
code_of statuses.Clash = 10
code_of statuses.Differs = 11
code_of statuses.StoreFault = 12
code_of statuses.FileFault = 13
code_of statuses.ByteFault = 14
code_of statuses.LinksLost = 15
code_of statuses.Memory = 17

-- how a fault ends a command line: its status, and what its line says
pub record Ending : Type 0 where
  pub status : Status
  pub text : List ℕ

-- an ending by its parts
abbrev pub ends : Status → List ℕ → Ending
ends status text = record { status = status; text = text }

-- why what was wanted is refused
abbrev pub refusal_ending : Refusal → Ending
refusal_ending (refusals.Missing name) = ends statuses.Missing (codes "missing object " ++ spelling name)
refusal_ending (refusals.BadThunk name) = ends statuses.BadThunk (codes "bad thunk " ++ spelling name)
refusal_ending (refusals.NoOutput name index) = ends statuses.NoOutput (codes "no output " ++ (decimal index ++ (codes " of " ++ spelling name)))
refusal_ending (refusals.Spent name budget) = ends statuses.Spent (codes "budget of " ++ (decimal budget ++ (codes " steps spent at " ++ spelling name)))
refusal_ending (refusals.TooBig name bytes) = ends statuses.TooBig (codes "job too big: " ++ (spelling name ++ (32 ∷ decimal bytes)))
refusal_ending (refusals.FunctionFailed name status) = ends statuses.FunctionFailed (codes "function failed: " ++ (spelling name ++ (codes " status " ++ decimal status)))

-- why a file is refused, or an item that is repeated
abbrev pub file_text : FileRefusal → List ℕ
file_text (files.Twice item) = codes "twice: " ++ item
file_text (files.NoFile path) = codes "no file " ++ path
file_text (files.TooLong path) = codes "too long: " ++ path
file_text (files.NotPlaceholder path) = codes "not a placeholder: " ++ path
file_text (files.Generated path) = codes "generated: " ++ path
file_text (files.ThunkText path) = codes "thunk text: " ++ path
file_text (files.Computed path line) = codes "computed include: " ++ (path ++ (codes " line " ++ decimal line))

-- why a word is refused
abbrev pub reason_text : Reason → List ℕ
reason_text reasons.Unknown = codes "not modelled"
reason_text reasons.NoValue = codes "no value"
reason_text reasons.BadValue = codes "bad value"
reason_text reasons.TwoStages = codes "two stages"
reason_text reasons.OneFile = codes "one file only"
reason_text reasons.NoInput = codes "no input"
reason_text reasons.NeedsOutput = codes "needs -o"
reason_text reasons.WrongKind = codes "wrong kind of file"
reason_text reasons.TooMany = codes "too many files"
reason_text reasons.Shell = codes "shell syntax"
reason_text reasons.Same = codes "same file"

-- the same of a word in a line of a script
abbrev pub line_word_text : ℕ → List ℕ → Reason → List ℕ
line_word_text line word reason = codes "line " ++ (decimal line ++ (codes ": " ++ (word ++ (codes ": " ++ reason_text reason))))

-- a tool failed that a line of a script runs
abbrev pub tool_text : ℕ → ℕ → List ℕ
tool_text line status = codes "function failed: line " ++ (decimal line ++ (codes " status " ++ decimal status))

-- each fault
abbrev pub ending_of : TopFault → Ending
ending_of Usage = ends statuses.Usage (codes "usage")
ending_of (FileRefused refusal) = ends statuses.FileRefused (file_text refusal)
ending_of (Refused refusal) = refusal_ending refusal
ending_of (NotModelled word reason) = ends statuses.NotModelled (word ++ (codes ": " ++ reason_text reason))
ending_of (LineNotModelled line word reason) = ends statuses.NotModelled (line_word_text line word reason)
ending_of (ToolFailed line status) = ends statuses.FunctionFailed (tool_text line status)
ending_of (Clash name) = ends statuses.Clash (codes "two objects named " ++ spelling name)
ending_of InputTooLong = ends statuses.FileRefused (codes "input too long")
ending_of StoreFailed = ends statuses.StoreFault (codes "store fault")
ending_of FileFailed = ends statuses.FileFault (codes "file fault")
ending_of InputFailed = ends statuses.ByteFault (codes "input fault")
ending_of OutputFailed = ends statuses.ByteFault (codes "output fault")
ending_of Memory = ends statuses.Memory (codes "want of memory")

-- the line of a text
abbrev pub fault_line : List ℕ → List ℕ
fault_line text = codes "gg: " ++ (text ++ 10 ∷ [])

-- the line of a fault
abbrev pub line_of : TopFault → List ℕ
line_of fault = fault_line (ending_of fault).text
