-- The law on builds, by the answers of the commands `infer`, `force` and `build`.
use Rattle.std.specs.Prelude.{◌≡◌, ◌≤◌, ℕ, List, [], length, Some}
use Rattle.object_name.specs.Name.{max_size}
use Rattle.blob_store.specs.Store.{Store, written}
use Rattle.file_tree.specs.Files.{Files, changed}
use Rattle.build_plan.specs.Symbolic.{Work}
use Rattle.build_script.specs.AtOnce.{Ran}
use Rattle.build_law.specs.Agreement.{file_items}
use Rattle.build_law.specs.ScriptsAgree.{BuildsScript}
use Rattle.gg_cli.specs.declared.command.Command.{Command}
use Rattle.gg_cli.specs.declared.command.Command.TheVariants.{Force, Infer, Build}
use Rattle.gg_cli.specs.declared.status.Status.TheVariants.{Done}
use Rattle.gg_cli.specs.Answer.{Answer, answer_of_command}
use Rattle.gg_cli.specs.Parts.{all_changes, all_writes}

-- the store after all that an answer does
abbrev pub store_after : Answer → Store → Store
store_after answer store = written store (all_writes answer.parts)

-- the files after all that an answer does
abbrev pub files_after : Answer → Files → Files
files_after answer files = changed files (all_changes answer.parts)

-- the answer of a command to a text of the input
abbrev pub answer_to : Command → List ℕ → Store → Files → Answer
answer_to command text store files = answer_of_command (Some command) text store files

-- the answer of forcing the files at some paths, after `infer` has answered so
abbrev pub forced_after : Answer → ℕ → ℕ → List (List ℕ) → Store → Files → Answer
forced_after inferred budget retries paths store files =
    answer_to (Force budget retries (file_items paths)) [] (store_after inferred store) (files_after inferred files)

-- `infer`, then `force` of the files at some paths, and `build` are all done, and the first two leave the files that the last leaves
pub record LeaveTheSame (text : List ℕ) (store : Store) (files : Files) (budget retries : ℕ) (paths : List (List ℕ)) : Type 0 where
  pub infers : (answer_to Infer text store files).status ≡ Done
  pub forces : (forced_after (answer_to Infer text store files) budget retries paths store files).status ≡ Done
  pub builds : (answer_to Build text store files).status ≡ Done
  pub same : files_after (forced_after (answer_to Infer text store files) budget retries paths store files) (files_after (answer_to Infer text store files) files)
      ≡ files_after (answer_to Build text store files) files

-- so it is for each text that isn't too long, where a script that is inferred agrees with the script that is built at once: under what
-- is asked of the store, of the files and of the jobs there, and where the paths are those of all placeholders that are left
abbrev pub BuildAgrees : Type 0
BuildAgrees = (text : List ℕ) (store : Store) (files : Files) (budget retries : ℕ) (work : Work) (ran : Ran) (paths : List (List ℕ))
    → length text ≤ max_size → BuildsScript text store files budget work ran paths → LeaveTheSame text store files budget retries paths
