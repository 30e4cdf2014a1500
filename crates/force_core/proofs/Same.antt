-- A job that is known is that job.
use Rattle.std.proofs.Common.{◌≡◌, ℕ, List, get_or, Bool, true, false, ◌&&◌, Option, Some, None, refl, sym, arith}
use Rattle.std.specs.Prelude.{bytes_eq, IfSome}
use Rattle.std.specs.Cmp.Lexicographic.{bytes_decides}
use Rattle.std.proofs.lemmas.List.Quantifiers.{position-Some}
use Rattle.std.proofs.lemmas.Option.{slice_get-get_or}
use Rattle.thunk_codec.specs.declared.job.Job.{Job}
use Rattle.thunk_codec.specs.Job.{same_job}
use Rattle.thunk_codec.proofs.PublicLaws.{same_job-equal}
use Rattle.force_core.specs.Book.{Task, offered}
use Rattle.force_core.specs.Known.{is_known, is_untaken, known, IsKnown}

pub three-true : (a b c : Bool) → (a && b && c) ≡ true → (a ≡ true) × (b ≡ true) × (c ≡ true)
three-true true true true is = (refl, refl, refl)
three-true false b c is = grind arith
three-true true false c is = grind arith
three-true true true false is = grind arith

-- what is found is that job
pub known-is : (text : List ℕ) (job : Job) (tasks : List Task) (id : ℕ) → known text job tasks ≡ Some id → IsKnown text job tasks id
known-is text job tasks id is =
    let none : Task = offered text job in
    let p = position-Some (is_known text job) tasks id none is in
    let t : Task = get_or tasks id none in
    let q = three-true (is_untaken t) (bytes_eq t.text text) (same_job t.job job) p.1 in
    record { task = t; found = slice_get-get_or tasks id none p.0; text_is = (bytes_decides t.text text).0 q.1; job_is = same_job-equal t.job job q.2; untaken = q.0 }

pub known-found : (text : List ℕ) (job : Job) (tasks : List Task) (found : Option ℕ) → found ≡ known text job tasks → IfSome found (λ id. IsKnown text job tasks id)
known-found text job tasks None is = tt
known-found text job tasks (Some id) is = known-is text job tasks id (sym is)
