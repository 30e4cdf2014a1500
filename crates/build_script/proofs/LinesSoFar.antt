-- The lines that were inferred so far.
use Rattle.std.proofs.Common.{◌≡◌, ◌≤◌, ◌<◌, ◌+◌, ℕ, List, [], ◌∷◌, ◌++◌, length, take, drop, get_or, sym, ap, ◌∙◌}
use Rattle.std.proofs.lemmas.List.{take_more, take-append-drop, drop_more}
use Rattle.object_name.specs.Causes.{TriesAtMost}
use Rattle.blob_store.specs.Store.{Store, Write}
use Rattle.blob_store.specs.Keeping.{kept}
use Rattle.file_tree.specs.Files.{Files, filed_in}
use Rattle.file_tree.specs.declared.change.Change.{Change}
use Rattle.build_plan.specs.Applying.{sides}
use Rattle.build_script.specs.declared.inferring.Inferred.{Inferred}
use Rattle.build_script.specs.declared.lines.ScriptLine.{ScriptLine}
use Rattle.build_script.specs.Inferring.{InfersAll}

-- these lines are inferred, by what a keeper and a tree tell; no count has fallen, and calls that failed were tried again
pub record HasInferred {K T : Type 0} (kept_tells filed_tells : Type 0) (store : K → Store) (writes : K → List Write) (kept_faults kept_calls : K → ℕ)
    (files : T → Files) (changes : T → List Change) (file_faults file_calls : T → ℕ) (retries : ℕ)
    (lines : List ScriptLine) (keeper keeper_now : K) (tree tree_now : T) (inferred : Inferred) : Type 0 where
  pub kept_later : kept_faults keeper ≤ kept_faults keeper_now
  pub files_later : file_faults tree ≤ file_faults tree_now
  pub kept_tries : kept_tells → TriesAtMost retries kept_calls kept_faults keeper keeper_now 0
  pub file_tries : filed_tells → TriesAtMost retries file_calls file_faults tree tree_now 0
  pub all : kept_tells → filed_tells → InfersAll lines (sides (kept store writes) (filed_in files changes) keeper keeper_now tree tree_now) inferred

-- the lines before the next, the next, and those behind it
pub split_at : (lines : List ScriptLine) (i : ℕ) (line : ScriptLine) → i < length lines → line ≡ get_or lines i line → take i lines ++ line ∷ drop (i + 1) lines ≡ lines
split_at lines i line within is =
    ap (λ (x : ScriptLine). take i lines ++ x ∷ drop (i + 1) lines) is ∙ ap (λ (xs : List ScriptLine). take i lines ++ xs) (sym (drop_more lines i line within)) ∙ take-append-drop i lines

-- one line more
pub one_more : (lines : List ScriptLine) (i : ℕ) (line : ScriptLine) → i < length lines → line ≡ get_or lines i line → take i lines ++ line ∷ [] ≡ take (i + 1) lines
one_more lines i line within is = ap (λ (x : ScriptLine). take i lines ++ x ∷ []) is ∙ sym (take_more lines i line within)
