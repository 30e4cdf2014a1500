-- Before anything is done, of any lines none is done.
use Rattle.std.proofs.Common.{◌≡◌, List, [], refl, sym, ◌∙◌, append-nil, inl}
use Rattle.blob_store.specs.Keeping.{Kept, WritesPrefix, all_written}
use Rattle.file_tree.specs.Files.{Filed, ChangesPrefix, all_changed}
use Rattle.blob_store.proofs.PublicLaws.{all_written-none}
use Rattle.file_tree.proofs.PublicLaws.{all_changed-none}
use Rattle.blob_store.specs.Store.{Write}
use Rattle.file_tree.specs.declared.change.Change.{Change}
use Rattle.build_plan.specs.Applying.{Sides}
use Rattle.build_plan.specs.Symbolic.{begun}
use Rattle.build_script.specs.declared.lines.ScriptLine.{ScriptLine}
use Rattle.build_script.specs.AtOnce.{not_run}
use Rattle.build_script.specs.Inferring.{InfersSome, next_work}
use Rattle.build_script.specs.Building.{BuildsSome}
use Rattle.build_script.specs.Building as building

-- no write is a prefix of any
pub no_writes : (writes : List Write) (before after : Kept) → after ≡ before → WritesPrefix writes before after
no_writes writes before after same = record {
  prefix = [];
  is_prefix = record { rest = writes; whole = refl };
  store = λ i. (same i).store;
  listed = inl ((λ i. (same i).writes) ∙ sym (append-nil before.writes));
}

-- no change is
pub no_changes : (changes : List Change) (before after : Filed) → after ≡ before → ChangesPrefix changes before after
no_changes changes before after same = record {
  prefix = [];
  is_prefix = record { rest = changes; whole = refl };
  files = λ i. (same i).files;
  listed = inl ((λ i. (same i).changes) ∙ sym (append-nil before.changes));
}

pub nothing_inferred : (lines : List ScriptLine) (s : Sides) → s.kept_after ≡ s.kept_before → s.files_after ≡ s.files_before → InfersSome lines s
nothing_inferred lines s kept filed =
    let start = begun s.kept_before.store s.files_before.files in
    record {
      before = [];
      behind = lines;
      are = refl;
      count = 0;
      last = start;
      finished = refl;
      part = inl (record {
        kept = no_writes (next_work lines start).writes (all_written s.kept_before []) s.kept_after (kept ∙ all_written-none s.kept_before);
        files = filed ∙ all_changed-none s.files_before;
      });
    }

pub nothing_built : (lines : List ScriptLine) (before after : Filed) → after ≡ before → BuildsSome lines before after
nothing_built lines before after same =
    let start = not_run before.files in
    record {
      first = [];
      behind = lines;
      are = refl;
      count = 0;
      last = start;
      finished = refl;
      part = no_changes (building.next_work lines start).changes (all_changed before []) after (same ∙ all_changed-none before);
    }
