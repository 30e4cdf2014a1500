-- What is left of an evaluation that stands somewhere inside: the thunks that were entered, the innermost first, with what was
-- gathered round each; and what is gathered now, values that are there and REFs whose values are still wanted.
use Rattle.std.specs.Prelude.{ℕ, List, [], ◌∷◌, ◌++◌, slice_get, Option}
use Rattle.object_name.specs.Name.{ObjectName}
use Rattle.thunk_codec.specs.declared.reference.Ref.{Ref}
use Rattle.thunk_codec.specs.declared.job.Job.{Job}
use Rattle.thunk_codec.specs.declared.job.Outcome.{Outcome}
use Rattle.thunk_codec.specs.Resolved.{resolved_by}
use Rattle.need_eval.specs.declared.fault.Refusal.TheVariants.{NoOutput}
use Rattle.need_eval.specs.declared.frame.Frame.{Frame}
use Rattle.need_eval.specs.Eval.{Refused, Eval, ◌>>=◌, give, need}
use Rattle.need_eval.specs.Evaluation.{reduce, passed, value_of, values_of}

module _ (answer : ℕ → Job → Option Outcome) (budget : ℕ) where
  -- the values that are wanted in the end
  unfoldable pub resume : List Frame → List ObjectName → List Ref → Eval (List ObjectName)
  resume [] done rest = do
    values ← values_of answer budget rest
    give (done ++ values)
  resume (inner ∷ outer) done rest = do
    values ← values_of answer budget rest
    outputs ← reduce answer inner.name (resolved_by inner.thunk (done ++ values))
    output ← need (slice_get outputs inner.index) (Refused (NoOutput inner.name inner.index))
    value ← passed answer budget (value_of answer budget) output.kind output
    resume outer (inner.outer.done ++ value ∷ []) inner.outer.rest.items
