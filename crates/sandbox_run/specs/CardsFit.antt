-- The outcomes of cards fit their jobs: a proof, which stands here since the impl of a trait cites its laws from specs alone.
use Rattle.std.proofs.Common.{ℕ, List, length, leb-true, lit≤}
use Rattle.std.specs.Prelude.{codes, nat_le, sum_by, if◌then◌else◌}
use Rattle.std.proofs.lemmas.Bool.{cond_both}
use Rattle.object_name.specs.Name.{max_size}
use Rattle.thunk_codec.specs.declared.job.Job.{Job}
use Rattle.thunk_codec.specs.declared.job.Outcome.{Outcome}
use Rattle.thunk_codec.specs.declared.job.Outcome.TheVariants.{Done, Failed}
use Rattle.thunk_codec.specs.Outcome.{Fits, HasForm}
use Rattle.tool_text.proofs.PublicLaws.{cat_form, add_form, fib_form, fail_form, cpp_form}
use Rattle.tool_bin.proofs.PublicLaws.{cc1_form, as_form, ld_form, ar_form, ranlib_form, strip_form}
use Rattle.sandbox_run.specs.Cards.{is_card, tool_outcome, within_limit, card_outcome}

module _ (job : Job) (function : List ℕ) where
  -- what is given where the function is this card, and otherwise
  card : (name : List ℕ) (outcome other : Outcome) → HasForm job outcome → HasForm job other → HasForm job (if is_card name function then outcome else other)
  card name outcome other form rest = cond_both (is_card name function) outcome other (HasForm job) (λ _. form) (λ _. rest)

  -- what a tool gives has the form that the job wants
  tool_form : HasForm job (tool_outcome function job)
  unfolding tool_outcome
  tool_form =
      card (codes "add") _ _ (add_form job)
      (card (codes "ar") _ _ (ar_form job)
      (card (codes "as") _ _ (as_form job)
      (card (codes "cat") _ _ (cat_form job)
      (card (codes "cc1") _ _ (cc1_form job)
      (card (codes "cpp") _ _ (cpp_form job)
      (card (codes "fail") _ _ (fail_form job)
      (card (codes "fib") _ _ (fib_form job)
      (card (codes "ld") _ _ (ld_form job)
      (card (codes "ranlib") _ _ (ranlib_form job)
      (card (codes "strip") _ _ (strip_form job)
      (lit≤ tt, lit≤ tt)))))))))))

-- and fits it within the limit
limit_fits : (job : Job) (outcome : Outcome) → HasForm job outcome → Fits job (within_limit outcome)
limit_fits job (Done outputs) form =
    cond_both (nat_le (sum_by length outputs) max_size) _ _ (Fits job) (λ small. (form, leb-true (sum_by length outputs) max_size small)) (λ _. (lit≤ tt, lit≤ tt))
limit_fits job (Failed status) form = form

-- each job fits the outcome of its function
pub cards_fit : (job : Job) → Fits job (card_outcome job)
unfolding card_outcome
cards_fit job = limit_fits job (tool_outcome job.function job) (tool_form job job.function)
