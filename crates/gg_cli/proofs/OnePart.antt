-- Answers of one part, and answers of which nothing is made.
use Rattle.std.proofs.Common.{◌≡◌, List, [], ◌∷◌, inl, refl, sym, ap, subst, ◌∙◌, append-nil}
use Rattle.blob_store.proofs.PublicLaws.{all_written-none}
use Rattle.blob_store.specs.Store.{Write}
use Rattle.blob_store.specs.Keeping.{all_written}
use Rattle.file_tree.proofs.PublicLaws.{all_changed-none}
use Rattle.file_tree.specs.Files.{all_changed}
use Rattle.file_tree.specs.declared.change.Change.{Change}
use Rattle.gg_cli.specs.Answer.{Answer}
use Rattle.gg_cli.specs.Comes.{Made, MadeAll, MadePart, MadePrefix, from_parts}
use Rattle.gg_cli.specs.Parts.{Part, all_changes, all_writes, first_part, one_part}

-- before any part all is as it was
none-before : (m : Made) → m ≡ from_parts [] m
none-before m = λ i. record m { kept_before = all_written-none m.kept_before i; files_before = all_changed-none m.files_before i }

module _ (a : Answer) (m : Made) where
  -- all is made where the one part is
  pub one-made : (writes : List Write) (changes : List Change) → a.parts ≡ one_part writes changes
      → m.kept_after ≡ all_written m.kept_before writes → m.files_after ≡ all_changed m.files_before changes → MadeAll a m
  one-made writes changes is kept files = record {
    kept = kept ∙ ap (all_written m.kept_before) (sym (append-nil writes) ∙ ap all_writes (sym is));
    files = files ∙ ap (all_changed m.files_before) (sym (append-nil changes) ∙ ap all_changes (sym is));
  }

  -- a prefix of the first part is made
  pub first-made : MadePart (first_part a.parts) m → MadePrefix a m
  first-made h = record { before = []; behind = a.parts; are = refl; part = subst (λ (m : Made). MadePart (first_part a.parts) m) (none-before m) h }

  -- of the one part
  pub part-made : (part : Part) → a.parts ≡ part ∷ [] → MadePart part m → MadePrefix a m
  part-made part is h = first-made (subst (λ (parts : List Part). MadePart (first_part parts) m) (sym is) h)

  -- nothing is made
  pub nothing-made : m.kept_after ≡ m.kept_before → m.files_after ≡ m.files_before → MadePrefix a m
  nothing-made kept files = first-made (inl (record {
    kept = record {
      prefix = [];
      is_prefix = record { rest = (first_part a.parts).writes; whole = refl };
      store = λ i. (kept i).store;
      listed = inl ((λ i. (kept i).writes) ∙ sym (append-nil m.kept_before.writes));
    };
    files = files;
  }))
