-- Jobs without an outcome.
use Rattle.std.proofs.Common.{◌≡◌, ℕ, zero, suc, List, [], ◌∷◌, map, Bool, true, false, not, ◌||◌, Option, Some, None, refl, sym, ◌∙◌, arith, subst}
use Rattle.std.specs.Prelude.{slice_get}
use Rattle.std.specs.Option.{option_map, is_some}
use Rattle.std.specs.List.{list_any}
use Rattle.std.proofs.lemmas.Bool.{false≢true}
use Rattle.thunk_codec.specs.declared.job.Job.{Job}
use Rattle.job_wire.specs.declared.answer.Answer.{Answer}
use Rattle.lease_table.specs.declared.row.Row.{Row}
use Rattle.force_core.specs.Book.{Core, Task, IsBook, answer_at}
use Rattle.force_pool.specs.Report.{HasOpenJob}

any-here : (b c : Bool) → b ≡ false → (not b || c) ≡ true
any-here true c is = absurd (false≢true (sym is))
any-here false c is = refl

any-there : (b c : Bool) → c ≡ true → (b || c) ≡ true
any-there true c is = refl
any-there false c is = is

none-from : {A B : Type 0} (f : A → B) (r : Option A) (x : Option B) (n : Bool) → option_map f r ≡ x → is_some r ≡ not n → Some n ≡ Some true → is_some x ≡ false
none-from f None x n e some is = subst (λ (y : Option _). is_some y ≡ false) e refl
none-from f (Some a) x n e some is = absurd (grind arith)

open-at : (rows : List Row) (tasks : List Task) (id : ℕ) (j : Job) → map (λ r. r.answered) rows ≡ map (λ t. is_some t.answer) tasks → Some j ≡ option_map (λ t. t.job) (slice_get tasks id) → is_some (answer_at tasks id) ≡ false → list_any (λ row. not row.answered) rows ≡ true
open-at rows [] id j same job none = absurd (grind arith)
open-at [] (t ∷ ts) id j same job none = absurd (grind arith)
open-at (r ∷ rs) (t ∷ ts) zero j same job none = let h : r.answered ≡ is_some t.answer = grind arith in any-here r.answered (list_any (λ row. not row.answered) rs) (h ∙ none)
open-at (r ∷ rs) (t ∷ ts) (suc k) j same job none = let tail : map (λ r. r.answered) rs ≡ map (λ t. is_some t.answer) ts = grind arith in any-there (not r.answered) (list_any (λ row. not row.answered) rs) (open-at rs ts k j tail job none)

-- a job that is there and has no answer is open
pub open-by : {A : Type 0} (f : A → Answer) (b : Core) (id : ℕ) (j : Job) (r : Option A) (n : Bool) → IsBook b → Some j ≡ option_map (λ t. t.job) (slice_get b.tasks id) → option_map f r ≡ answer_at b.tasks id → is_some r ≡ not n → Some n ≡ Some true → HasOpenJob b.state
open-by f b id j r n book job answer some is = open-at b.state.table.rows b.tasks id j book.rows job (none-from f r (answer_at b.tasks id) n answer some is)
