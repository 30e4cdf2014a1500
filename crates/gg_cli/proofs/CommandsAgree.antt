-- The law on builds, by the answers of the commands.
use Rattle.std.proofs.Common.{◌≡◌, ◌≤◌, ℕ, List, [], ◌∷◌, length, unwrap_or, Option, Some, None, IsSome, refl, sym, ap, subst, ◌∙◌, append-nil}
use Rattle.object_name.specs.Name.{ObjectName, max_size}
use Rattle.blob_store.specs.Store.{Store, held, written}
use Rattle.file_tree.specs.Files.{Files, changed}
use Rattle.file_tree.specs.declared.change.Change.{Change}
use Rattle.file_tree.specs.declared.change.Change.TheVariants.{Written}
use Rattle.need_eval.specs.Eval.{start}
use Rattle.need_eval.specs.Evaluation.{by_function}
use Rattle.need_eval.specs.MetObjects.{AreHeld}
use Rattle.need_eval.proofs.PublicLaws.{outputs-begin, values-held}
use Rattle.sandbox_run.specs.Cards.{card_outcome}
use Rattle.build_plan.specs.Applying.{Sides}
use Rattle.build_plan.specs.Symbolic.{Work, begun}
use Rattle.build_script.specs.AtOnce.{Ran, not_run}
use Rattle.build_script.specs.Script.{ScriptEnd, Finished, state_at}
use Rattle.build_script.specs.ScriptLines.{script_lines}
use Rattle.build_script.specs.WholeTree.{cpp_whole}
use Rattle.build_script.proofs.PublicLaws.{HasChanged, IsMade, lines-make, ran-lines-make}
use Rattle.build_law.specs.Agreement.{Forces, file_items, file_then, filed as filed_at}
use Rattle.build_law.specs.ScriptsAgree.{BuildsScript}
use Rattle.build_law.proofs.PublicLaws.{scripts-agree}
use Rattle.gg_cli.specs.declared.command.Command.TheVariants.{Force, Infer, Build}
use Rattle.gg_cli.specs.Answer.{Answer, build_prints, built, done, forced, infer_prints, inferred, scripted, wanted_forced}
use Rattle.gg_cli.specs.BuildsAgree.{BuildAgrees, LeaveTheSame, answer_to, files_after, forced_after, store_after}
use Rattle.gg_cli.specs.ValueFiles.{filed}
use Rattle.gg_cli.specs.ValueLines.{value_lines}
use Rattle.gg_cli.proofs.BuildsMakeTheAnswer as builds
use Rattle.gg_cli.proofs.InputMakesTheAnswer.{within-fits}
use Rattle.gg_cli.proofs.ScriptsMakeTheAnswer as scripts

-- values that are held go to the files at paths, whichever way that is said
same-bytes : (path : List ℕ) (found : Option (List ℕ)) (behind : List Change) → IsSome found → Written path (unwrap_or found []) ∷ behind ≡ file_then path found behind
same-bytes path None behind some = absurd (cc some)
same-bytes path (Some bytes) behind some = refl

same-filed : (store : Store) (names : List ObjectName) (paths : List (List ℕ)) → AreHeld store names → filed store.objects names (file_items paths) ≡ filed_at store.objects paths names
unfolding filed
same-filed store [] [] are = refl
same-filed store [] (path ∷ paths) are = refl
same-filed store (name ∷ names) [] are = refl
same-filed store (name ∷ names) (path ∷ paths) are =
    ap (λ (behind : List Change). Written path (unwrap_or (held store.objects name) []) ∷ behind) (same-filed store names paths are.1)
    ∙ same-bytes path (held store.objects name) (filed_at store.objects paths names) are.0

module _ (text : List ℕ) (store : Store) (files : Files) (budget retries : ℕ) (work : Work) (ran : Ran) (paths : List (List ℕ))
    (fits : length text ≤ max_size) (h : BuildsScript text store files budget work ran paths) where
  -- what is told at the start
  abbrev sides : Sides
  sides = record {
    kept_before = record { store = store; writes = [] };
    kept_after = record { store = store; writes = [] };
    files_before = record { files = files; changes = [] };
    files_after = record { files = files; changes = [] };
  }

  -- `infer` is done, with the work of the script
  infers-is : answer_to Infer text store files ≡ scripted infer_prints (scripts.parts_of (script_lines text) (begun store files)) (Finished h.commands_inferred work)
  infers-is = within-fits text (inferred text store files) fits ∙ ap (scripted infer_prints (scripts.parts_of (script_lines text) (begun store files))) h.symbolic

  made : IsMade store files work
  made = subst (λ (e : ScriptEnd Work). IsMade store files (state_at e)) h.symbolic (lines-make store files (script_lines text) 0 (begun store files) (record { store = refl; files = refl }))

  store-is : store_after (answer_to Infer text store files) store ≡ work.store
  store-is =
      ap (λ (a : Answer). store_after a store) infers-is ∙ ap (written store) (scripts.writes-all (script_lines text) sides ∙ ap (λ (e : ScriptEnd Work). (state_at e).writes) h.symbolic) ∙ sym made.store

  files-are : files_after (answer_to Infer text store files) files ≡ work.files
  files-are =
      ap (λ (a : Answer). files_after a files) infers-is ∙ ap (changed files) (scripts.changes-all (script_lines text) sides ∙ ap (λ (e : ScriptEnd Work). (state_at e).changes) h.symbolic) ∙ sym made.files

  -- `build` is done, with what was run
  builds-is : answer_to Build text store files ≡ scripted build_prints (builds.parts_of (script_lines text) (not_run files)) (Finished h.commands_built ran)
  builds-is = within-fits text (built text files) fits ∙ ap (scripted build_prints (builds.parts_of (script_lines text) (not_run files))) h.once

  changed-by : HasChanged files ran
  changed-by = subst (λ (e : ScriptEnd Ran). HasChanged files (state_at e)) h.once (ran-lines-make card_outcome cpp_whole files (script_lines text) 0 (not_run files) refl)

  built-files : files_after (answer_to Build text store files) files ≡ ran.files
  built-files =
      ap (λ (a : Answer). files_after a files) builds-is
      ∙ ap (changed files) (builds.changes-all (script_lines text) (record { files = files; changes = [] }) ∙ ap (λ (e : ScriptEnd Ran). (state_at e).changes) h.once) ∙ sym changed-by

  -- `force` gives the values of all placeholders
  agree : Forces card_outcome budget work ran paths
  agree = scripts-agree text store files budget work ran paths h

  forces-is : forced_after (answer_to Infer text store files) budget retries paths store files
      ≡ done agree.last.writes (filed agree.last.store.objects agree.names (file_items paths)) (value_lines agree.names (file_items paths))
  forces-is =
      (λ i. answer_to (Force budget retries (file_items paths)) [] (store-is i) (files-are i)) ∙ ap (wanted_forced budget (file_items paths) work.store) agree.wanted ∙ ap (forced (file_items paths)) agree.values

  are-held : AreHeld agree.last.store agree.names
  are-held = values-held (by_function card_outcome) budget agree.refs (start work.store) agree.names agree.last (outputs-begin work.store) agree.values

  leave-the-same : LeaveTheSame text store files budget retries paths
  leave-the-same = record {
    infers = ap (λ (a : Answer). a.status) infers-is;
    forces = ap (λ (a : Answer). a.status) forces-is;
    builds = ap (λ (a : Answer). a.status) builds-is;
    same =
        (λ i. files_after (forces-is i) (files-are i))
        ∙ ap (changed work.files) (append-nil (filed agree.last.store.objects agree.names (file_items paths)) ∙ same-filed agree.last.store agree.names paths are-held)
        ∙ agree.files ∙ sym built-files;
  }

-- `infer` and then `force` leave the files that `build` leaves
pub commands-agree : BuildAgrees
commands-agree = leave-the-same
