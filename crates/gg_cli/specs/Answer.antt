-- The answer of a command line over a text of the input, a store and a tree: the parts of what it does, the text, the status and
-- the line of the fault.
use Rattle.std.specs.Prelude.{ℕ, List, [], ◌∷◌, ◌++◌, length, nat_le, Option, Some, None, Result, Ok, Err, codes, decimal, if◌then◌else◌}
use Rattle.object_name.specs.Name.{ObjectName, max_size, spelling}
use Rattle.thunk_codec.specs.declared.reference.Ref.{Ref}
use Rattle.thunk_codec.specs.Job.{ref_name}
use Rattle.thunk_codec.specs.declared.job.Job.{Job}
use Rattle.thunk_codec.specs.declared.job.Outcome.{Outcome}
use Rattle.thunk_codec.specs.Reading.{thunk_of}
use Rattle.thunk_codec.specs.Thunk.{Parts}
use Rattle.blob_store.specs.Store.{Store, Write, held}
use Rattle.file_tree.specs.Files.{Files}
use Rattle.file_tree.specs.declared.change.Change.{Change}
use Rattle.file_tree.specs.Wanted.{ref_of_item, wanted_of}
use Rattle.file_tree.specs.declared.item.Item.{Item}
use Rattle.file_tree.specs.declared.model_fault.PlanFault.{PlanFault}
use Rattle.file_tree.specs.declared.model_fault.PlanFault.TheVariants as plans
use Rattle.file_tree.specs.declared.refusal.FileRefusal.{FileRefusal}
use Rattle.need_eval.specs.declared.fault.Refusal.TheVariants.{Missing, BadThunk}
use Rattle.need_eval.specs.Eval.{Stop, Refused, Clash, Stands, Ended, Got, Stopped, start}
use Rattle.need_eval.specs.Evaluation.{value_of, values_of, by_function}
use Rattle.build_plan.specs.declared.recipe.Recipe.{Recipe}
use Rattle.build_plan.specs.Doing as doing
use Rattle.build_plan.specs.Symbolic.{Work, applied, begun, symbolic}
use Rattle.build_plan.specs.Creating.{created}
use Rattle.build_plan.specs.declared.plan.Plan.{Plan}
use Rattle.build_script.specs.AtOnce.{Ran, at_once, not_run}
use Rattle.build_script.specs.Commands.{command_plan, own_word, word_at}
use Rattle.build_script.specs.Inferring.{at_most}
use Rattle.build_script.specs.LineCommand.{Halt, AtWord, AtWork}
use Rattle.build_script.specs.Script.{ScriptEnd, Finished, Halted, script_built, script_inferred}
use Rattle.build_script.specs.ScriptLines.{script_lines}
use Rattle.build_script.specs.WholeTree.{cpp_whole}
use Rattle.gg_cli.specs.declared.fault.TopFault.{TopFault}
use Rattle.gg_cli.specs.declared.fault.TopFault.TheVariants as faults
use Rattle.gg_cli.specs.declared.status.Status.{Status}
use Rattle.gg_cli.specs.declared.status.Status.TheVariants.{Done}
use Rattle.gg_cli.specs.declared.command.Command.{Command}
use Rattle.gg_cli.specs.declared.command.Command.TheVariants.{Force, ForceWith, CreateThunk, Model, Infer, Build, Describe, Demo, Worker, Help}
use Rattle.gg_cli.specs.Words.{command_here}
use Rattle.gg_cli.specs.ForceWords.{default_budget}
use Rattle.gg_cli.specs.Demo.{demo_files, demo_script, empty_store, program}
use Rattle.gg_cli.specs.Description.{description}
use Rattle.gg_cli.specs.HelpText.{help_text}
use Rattle.sandbox_run.specs.Cards.{card_outcome}
use Rattle.gg_cli.specs.Endings.{ending_of, line_of}
use Rattle.gg_cli.specs.ValueLines.{value_lines}
use Rattle.gg_cli.specs.ValueFiles.{filed}
use Rattle.gg_cli.specs.Parts.{Part, line_parts, one_part, ran_part, work_part}

-- what a command line is to do: its parts, one after another, the status, what is printed, and the line of the fault, if there is one
pub record Answer : Type 0 where
  pub parts : List Part
  pub status : Status
  pub text : List ℕ
  pub line : List ℕ

-- all is done, and this is printed
abbrev pub all_done : List Part → List ℕ → Answer
all_done parts text = record { parts = parts; status = Done; text = text; line = [] }

-- a fault ends it, after these parts
abbrev pub halted_by : List Part → TopFault → Answer
halted_by parts fault = record { parts = parts; status = (ending_of fault).status; text = []; line = line_of fault }

-- all is done, where one part is all
abbrev pub done : List Write → List Change → List ℕ → Answer
done writes changes text = all_done (one_part writes changes) text

-- a fault ends it, where one part is all
abbrev pub ended_by : List Write → List Change → TopFault → Answer
ended_by writes changes fault = halted_by (one_part writes changes) fault

-- the fault of a stop; with one function an evaluation never stands at a job
abbrev pub stop_fault : Stop → TopFault
stop_fault (Refused refusal) = faults.Refused refusal
stop_fault (Clash name found fresh) = faults.Clash name
stop_fault (Stands text job) = faults.Memory

-- the answer by the end of the evaluation: only where it gives all values they go to the files that wanted them, and then a text of
-- them is printed
abbrev pub forced_with : (List ObjectName → List Item → List ℕ) → List Item → Ended (List ObjectName) → Answer
forced_with text items (Got names s) = done s.writes (filed s.store.objects names items) (text names items)
forced_with text items (Stopped why s) = ended_by s.writes [] (stop_fault why)

-- the answer by the references of the items: they are evaluated with these outcomes of jobs, unless an item is refused
abbrev pub wanted_forced_with : (ℕ → Job → Option Outcome) → (List ObjectName → List Item → List ℕ) → ℕ → List Item → Store → Result (List Ref) FileRefusal → Answer
wanted_forced_with outcomes text budget items store (Err refusal) = ended_by [] [] (faults.FileRefused refusal)
wanted_forced_with outcomes text budget items store (Ok refs) = forced_with text items (values_of outcomes budget refs (start store))

-- the answer by the end of the evaluation, where the values are printed
abbrev pub forced : List Item → Ended (List ObjectName) → Answer
forced items e = forced_with value_lines items e

-- the same by the references of the items, where jobs are those of cards
abbrev pub wanted_forced : ℕ → List Item → Store → Result (List Ref) FileRefusal → Answer
wanted_forced budget items store found = wanted_forced_with (by_function card_outcome) value_lines budget items store found

-- the fault of work that stopped, of a command whose own word is this; no tool is run here, so none fails
abbrev pub why_fault : List ℕ → doing.Why → TopFault
why_fault word (doing.File refusal) = faults.FileRefused refusal
why_fault word (doing.Unmodelled reason) = faults.NotModelled word reason
why_fault word (doing.Clash name found fresh) = faults.Clash name
why_fault word (doing.Tool status) = faults.Memory

-- the answer by the end of some work: all that it wrote and changed, and then a text of what it gave, or the fault that stopped it
abbrev pub worked : {A : Type 0} → (A → List ℕ) → List ℕ → doing.Ended Work A → Answer
worked text word (doing.Got x work) = done work.writes work.changes (text x)
worked text word (doing.Stopped why work) = ended_by work.writes work.changes (why_fault word why)

-- nothing is printed of the number of thunks
abbrev pub no_text : ℕ → List ℕ
no_text thunks = []

-- a name in a line
abbrev pub name_line : ObjectName → List ℕ
name_line name = spelling name ++ 10 ∷ []

-- `create-thunk`: the thunk of the recipe, whose name is printed
abbrev pub thunk_created : Recipe → Store → Files → Answer
thunk_created recipe store files = worked name_line (codes "create-thunk") (created recipe (begun store files))

-- the fault of words that have no plan
abbrev pub plan_fault : List (List ℕ) → PlanFault → TopFault
plan_fault words (plans.Refused at reason) = faults.NotModelled (word_at words at) reason
plan_fault words plans.Memory = faults.Memory

-- the answer by the plan of the words: it is applied, unless a word is refused
abbrev pub plan_modelled : List (List ℕ) → Result Plan PlanFault → Store → Files → Answer
plan_modelled words (Err fault) store files = ended_by [] [] (plan_fault words fault)
plan_modelled words (Ok plan) store files = worked no_text (own_word words) (applied plan (begun store files))

-- `model`: the plan of the command's words
abbrev pub modelled : List (List ℕ) → Store → Files → Answer
modelled words store files = plan_modelled words (command_plan words) store files

-- the fault of a line that halts
abbrev pub halt_fault : Halt → TopFault
halt_fault (AtWord line word reason) = faults.LineNotModelled line word reason
halt_fault (AtWork line (doing.File refusal)) = faults.FileRefused refusal
halt_fault (AtWork line (doing.Unmodelled reason)) = faults.LineNotModelled line [] reason
halt_fault (AtWork line (doing.Clash name found fresh)) = faults.Clash name
halt_fault (AtWork line (doing.Tool status)) = faults.ToolFailed line status

-- a label and a number in a line
abbrev pub count_line : List ℕ → ℕ → List ℕ
count_line label number = label ++ (decimal number ++ 10 ∷ [])

-- the numbers of commands and of thunks
abbrev pub inferred_text : ℕ → ℕ → List ℕ
inferred_text commands thunks = count_line (codes "commands ") commands ++ count_line (codes "thunks ") thunks

-- the answer by the end of a script, which has done these parts: a text of what was done, or the fault of the line that halts
abbrev pub scripted : {S : Type 0} → (ℕ → S → List ℕ) → List Part → ScriptEnd S → Answer
scripted text parts (Finished commands s) = all_done parts (text commands s)
scripted text parts (Halted halt s) = halted_by parts (halt_fault halt)

-- what `infer` prints
abbrev pub infer_prints : ℕ → Work → List ℕ
infer_prints commands work = inferred_text (at_most commands) (at_most work.thunks)

-- what `build` prints
abbrev pub build_prints : ℕ → Ran → List ℕ
build_prints commands ran = count_line (codes "commands ") (at_most commands)

-- `infer`: each line of the script is done as `model` does a command, in the tree that the line before leaves
abbrev pub inferred : List ℕ → Store → Files → Answer
inferred text store files =
    scripted infer_prints (line_parts symbolic (λ work. begun work.store work.files) work_part (script_lines text) (begun store files)) (script_inferred text store files)

-- `build`: the tools of each line are run, in the tree that the line before leaves; the store isn't written
abbrev pub built : List ℕ → Files → Answer
built text files =
    scripted build_prints (line_parts (at_once card_outcome cpp_whole) (λ ran. not_run ran.files) ran_part (script_lines text) (not_run files)) (script_built card_outcome cpp_whole text files)

-- the answer to a text of the input, if it isn't longer than a script may be
abbrev pub within : List ℕ → Answer → Answer
within text answer = if nat_le (length text) max_size then answer else ended_by [] [] faults.InputTooLong

-- the answer by the thunk of a name
abbrev pub thunk_described : ObjectName → Option Parts → Answer
thunk_described name None = ended_by [] [] (faults.Refused (BadThunk name))
thunk_described name (Some thunk) = done [] [] (description name thunk)

-- the answer by the bytes that are held under a name
abbrev pub bytes_described : ObjectName → Option (List ℕ) → Answer
bytes_described name None = ended_by [] [] (faults.Refused (Missing name))
bytes_described name (Some bytes) = thunk_described name (thunk_of bytes)

-- the answer by the REF of the item: the index isn't looked at
abbrev pub ref_described : Store → Result Ref FileRefusal → Answer
ref_described store (Err refusal) = ended_by [] [] (faults.FileRefused refusal)
ref_described store (Ok ref) = bytes_described (ref_name ref) (held store.objects (ref_name ref))

-- `describe`: the thunk of which the item is an output
abbrev pub described : Item → Store → Files → Answer
described item store files = ref_described store (ref_of_item files item)

-- what `demo` prints
abbrev pub demo_text : ℕ → ℕ → ObjectName → List ℕ
demo_text thunks steps name = count_line (codes "thunks ") thunks ++ (count_line (codes "steps ") steps ++ (codes "prog " ++ name_line name))

-- the answer by the end of the evaluation, after so many thunks were made: of its store nothing is kept
abbrev pub program_forced : ℕ → Ended ObjectName → Answer
program_forced thunks (Got name s) = done [] [] (demo_text (at_most thunks) s.steps name)
program_forced thunks (Stopped why s) = ended_by [] [] (stop_fault why)

-- the answer by the REF of the program: its value is worked out
abbrev pub program_wanted : ℕ → Store → Result Ref FileRefusal → Answer
program_wanted thunks store (Err refusal) = ended_by [] [] (faults.FileRefused refusal)
program_wanted thunks store (Ok ref) = program_forced thunks (value_of (by_function card_outcome) default_budget ref (start store))

-- the answer by the end of the script: the program is forced, in what the script leaves
abbrev pub program_built : ScriptEnd Work → Answer
program_built (Finished commands work) = program_wanted work.thunks work.store (ref_of_item work.files program)
program_built (Halted halt work) = ended_by [] [] (halt_fault halt)

-- `demo`: its script is inferred in a store and a tree of its own, and its program is forced there; the store and the files outside
-- stay as they are
abbrev pub demonstrated : ℕ → Answer
demonstrated count = program_built (script_inferred (demo_script count) empty_store (demo_files count))

-- the answer of a command, or of words that are none: a line for each command
abbrev pub answer_of_command : Option Command → List ℕ → Store → Files → Answer
answer_of_command None text store files = ended_by [] [] faults.Usage
answer_of_command (Some (Force budget retries items)) text store files = wanted_forced budget items store (wanted_of files items)
answer_of_command (Some (ForceWith links setup report items)) text store files = ended_by [] [] faults.Usage
answer_of_command (Some (CreateThunk recipe)) text store files = thunk_created recipe store files
answer_of_command (Some (Model words)) text store files = modelled words store files
answer_of_command (Some Infer) text store files = within text (inferred text store files)
answer_of_command (Some Build) text store files = within text (built text files)
answer_of_command (Some (Describe item)) text store files = described item store files
answer_of_command (Some (Demo count)) text store files = demonstrated count
answer_of_command (Some (Worker address times)) text store files = ended_by [] [] faults.Usage
answer_of_command (Some Help) text store files = all_done [] help_text

-- the answer of some words, where the input has this text
unfoldable pub answer_of : List (List ℕ) → List ℕ → Store → Files → Answer
answer_of words text store files = answer_of_command (command_here words) text store files
