-- The law on builds, for the text of a script and the tools of cards.
use Rattle.std.specs.Prelude.{◌≡◌, ◌≤◌, ℕ, List, None, Ok}
use Rattle.std.specs.List.{AllByRecursion}
use Rattle.thunk_codec.specs.declared.reference.Ref.{Ref}
use Rattle.blob_store.specs.Store.{Store}
use Rattle.file_tree.specs.Files.{Files}
use Rattle.file_tree.specs.Wanted.{wanted_of, repeated_item}
use Rattle.sandbox_run.specs.Cards.{card_outcome}
use Rattle.build_plan.specs.Symbolic.{Work}
use Rattle.build_script.specs.AtOnce.{Ran}
use Rattle.build_script.specs.Script.{Finished, script_inferred, script_built}
use Rattle.build_script.specs.WholeTree.{cpp_whole}
use Rattle.build_law.specs.Agreement.{IsOneOf, IsPlaceholderFile, Forces, file_items}
use Rattle.build_law.specs.Denoted.{NotesAreTrue}
use Rattle.build_law.specs.Jobs.{HaveNoClash, AreWithin}

-- all lines of a script are inferred, and all are built at once, and the paths are those of all placeholders that the first leaves
pub record BuildsScript (text : List ℕ) (store : Store) (files : Files) (budget : ℕ) (work : Work) (ran : Ran) (paths : List (List ℕ)) : Type 0 where
  -- both go on to the end of the script, after so many commands
  pub commands_inferred : ℕ
  pub commands_built : ℕ
  pub symbolic : script_inferred text store files ≡ Finished commands_inferred work
  pub once : script_built card_outcome cpp_whole text files ≡ Finished commands_built ran
  -- the tree has no placeholder at the start
  pub no_placeholder : (path : List ℕ) → IsPlaceholderFile (files path) → ⊥
  -- the notes at the start are true for each job to which forcing comes
  pub true_notes : (refs : List Ref) → wanted_of work.files (file_items paths) ≡ Ok refs
      → NotesAreTrue card_outcome store work.store.objects refs
  -- no two objects that are met have one name, and no job is over the limit
  pub no_clash : HaveNoClash card_outcome work.store ran.jobs
  pub within : AreWithin ran.jobs
  -- each placeholder has one path, and each path is a placeholder's
  pub distinct : repeated_item (file_items paths) ≡ None
  pub each : AllByRecursion (λ path. IsPlaceholderFile (work.files path)) paths
  pub all : (path : List ℕ) → IsPlaceholderFile (work.files path) → IsOneOf path paths
  -- there is a step for each thunk that was made
  pub enough : work.thunks ≤ budget

-- inferring a script and forcing all placeholders that it leaves gives the tree that the script built at once by the cards leaves
abbrev pub ScriptsAgree : Type 0
ScriptsAgree = (text : List ℕ) (store : Store) (files : Files) (budget : ℕ) (work : Work) (ran : Ran) (paths : List (List ℕ))
    → BuildsScript text store files budget work ran paths → Forces card_outcome budget work ran paths
