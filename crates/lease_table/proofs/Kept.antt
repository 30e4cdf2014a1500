-- What changes of the rows keep of the jobs without an outcome.
use Rattle.std.proofs.Common.{◌≡◌, ◌≢◌, ℕ, zero, suc, ◌+◌, ◌-◌, ◌<◌, ◌≤◌, List, [], ◌∷◌, ◌++◌, length, take, get_or, Bool, true, false, Some, None, refl, ap, sym, ◌∙◌, arith, cond, eqb, ltb}
use Rattle.std.specs.List.{position, remove}
use Rattle.std.proofs.lemmas.List.Quantifiers.{position-Some}
use Rattle.std.proofs.lemmas.List.{take-append-le, take_more, length_push, length-take-le, append-nil}
use Rattle.std.proofs.lemmas.Bool.{false≢true}
use Rattle.std.proofs.lemmas.Bool.Decides.{nat_tests}
use Rattle.lease_table.specs.declared.row.Row.{Row}
use Rattle.lease_table.specs.Table.{alter, is_idle, fresh, leased, unleased, as_answered}
use Rattle.lease_table.specs.Pending.{PendingJobs, IsPending, row_at, unanswered_from, roomier, passed, settled, without}
use Rattle.lease_table.proofs.Found.{from-none, position-from}
use Rattle.lease_table.proofs.Rows.{IsChosen, chosen, length-alter}

-- a new row changes what is read of none
row-added : (rows : List Row) (k : ℕ) → row_at (rows ++ fresh ∷ []) k ≡ row_at rows k
row-added [] zero = refl
row-added [] (suc k) = refl
row-added (r ∷ rs) zero = refl
row-added (r ∷ rs) (suc k) = row-added rs k

pub added-kept : (p : PendingJobs) (rows : List Row) → IsPending p rows → IsPending (roomier p) (rows ++ fresh ∷ [])
added-kept p rows is = record {
  jobs = rw (take-append-le p.mark rows (fresh ∷ []) is.within) is.jobs;
  unleased = λ job past. rw (row-added rows job) (is.unleased job past);
  within = omega (arith, length_push rows fresh, is.within);
  room = omega (arith, length_push rows fresh, is.room);
}

-- a change of one row
take-alter : {A : Type 0} (f : A → A) (n : ℕ) (xs : List A) (i : ℕ) → take n (alter f xs i) ≡ alter f (take n xs) i
take-alter f zero xs i = refl
take-alter f (suc n) [] i = refl
take-alter f (suc n) (x ∷ xs) zero = refl
take-alter f (suc n) (x ∷ xs) (suc i) = ap (λ ys. x ∷ ys) (take-alter f n xs i)

pub alter-other : {A : Type 0} (f : A → A) (xs : List A) (i k : ℕ) (d : A) → k ≢ i → get_or (alter f xs i) k d ≡ get_or xs k d
alter-other f [] i k d other = refl
alter-other f (x ∷ xs) zero zero d other = absurd (other refl)
alter-other f (x ∷ xs) zero (suc k) d other = refl
alter-other f (x ∷ xs) (suc i) zero d other = refl
alter-other f (x ∷ xs) (suc i) (suc k) d other = alter-other f xs i k d (λ e. other (ap suc e))

-- a change that leaves which jobs have an outcome
pub unanswered-alter : (f : Row → Row) → ((r : Row) → (f r).answered ≡ r.answered) → (n : ℕ) (rs : List Row) (i : ℕ) → unanswered_from n (alter f rs i) ≡ unanswered_from n rs
unanswered-alter f same n [] i = refl
unanswered-alter f same n (r ∷ rs) zero = ap (λ (t : Bool). cond t (unanswered_from (n + 1) rs) (n ∷ unanswered_from (n + 1) rs)) (same r)
unanswered-alter f same n (r ∷ rs) (suc i) = ap (λ (xs : List ℕ). cond r.answered xs (n ∷ xs)) (unanswered-alter f same (n + 1) rs i)

cond-push : {A : Type 0} (t : Bool) (xs ys : List A) (x : A) → cond t (xs ++ ys) (x ∷ (xs ++ ys)) ≡ cond t xs (x ∷ xs) ++ ys
cond-push true xs ys x = refl
cond-push false xs ys x = refl

unanswered-append : (n : ℕ) (xs ys : List Row) → unanswered_from n (xs ++ ys) ≡ unanswered_from n xs ++ unanswered_from (n + length xs) ys
unanswered-append n [] ys = let e : n + 0 ≡ n = omega arith in rw e refl
unanswered-append n (x ∷ xs) ys =
    let e : n + suc (length xs) ≡ n + 1 + length xs = omega arith in
    rw e (ap (λ (zs : List ℕ). cond x.answered zs (n ∷ zs)) (unanswered-append (n + 1) xs ys) ∙ cond-push x.answered (unanswered_from (n + 1) xs) (unanswered_from (n + 1 + length xs) ys) n)

-- the jobs below one place more
unanswered-more : (rows : List Row) (k : ℕ) → k < length rows → unanswered_from 0 (take (k + 1) rows) ≡ unanswered_from 0 (take k rows) ++ cond (row_at rows k).answered [] (k ∷ [])
unanswered-more rows k below =
    let l : length (take k rows) ≡ k = length-take-le k rows (omega arith) in
    let e : 0 + length (take k rows) ≡ k = omega (arith, l) in
    ap (unanswered_from 0) (take_more rows k fresh below) ∙ unanswered-append 0 (take k rows) (row_at rows k ∷ []) ∙ ap (λ (n : ℕ). unanswered_from 0 (take k rows) ++ cond (row_at rows k).answered [] (n ∷ [])) e

idle-by : (r : Row) (t : Bool) → r.answered ≡ t → is_idle r ≡ false → r.running ≡ 0 → r.answered ≡ true
idle-by r true e idle none = e
idle-by r false e idle none = let i : is_idle r ≡ true = rw (e, none) refl in absurd (false≢true (sym idle ∙ i))

-- from the mark to the job that is chosen all have outcomes
between : (p : PendingJobs) (rows : List Row) (job : ℕ) → IsPending p rows → ((k : ℕ) → k < job → is_idle (row_at rows k) ≡ false) → job < length rows → (d : ℕ) → p.mark + d ≤ job
    → unanswered_from 0 (take (p.mark + d) rows) ≡ unanswered_from 0 (take p.mark rows)
between p rows job is busy below zero upto = let e : p.mark + 0 ≡ p.mark = omega arith in rw e refl
between p rows job is busy below (suc d) upto =
    let e : p.mark + suc d ≡ p.mark + d + 1 = omega arith in
    let a = idle-by (row_at rows (p.mark + d)) (row_at rows (p.mark + d)).answered refl (busy (p.mark + d) (omega arith)) (is.unleased (p.mark + d) (omega arith)) in
    let one = unanswered-more rows (p.mark + d) (omega arith) in
    let none : unanswered_from 0 (take (p.mark + d) rows) ++ cond (row_at rows (p.mark + d)).answered [] ((p.mark + d) ∷ []) ≡ unanswered_from 0 (take (p.mark + d) rows) = rw a (append-nil (unanswered_from 0 (take (p.mark + d) rows))) in
    rw e (one ∙ none ∙ between p rows job is busy below d (omega arith))

passed-by : (p : PendingJobs) (rows : List Row) (copies job lease : ℕ) → IsPending p rows → IsChosen copies rows job → (t : Bool) → ltb job p.mark ≡ t
    → IsPending (cond t p (record { jobs = p.jobs ++ job ∷ []; mark = job + 1; room = p.room })) (alter (leased lease) rows job)
passed-by p rows copies job lease is chosen true low =
    let l : job < p.mark = grind (arith, nat_tests) in record {
      jobs = is.jobs ∙ sym (ap (unanswered_from 0) (take-alter (leased lease) p.mark rows job) ∙ unanswered-alter (leased lease) (λ r. refl) 0 (take p.mark rows) job);
      unleased = λ other past. let ne : other ≢ job = omega arith in rw (alter-other (leased lease) rows job other fresh ne) (is.unleased other past);
      within = omega (arith, length-alter (leased lease) rows job, is.within);
      room = omega (arith, length-alter (leased lease) rows job, is.room);
    }
passed-by p rows copies job lease is chosen false low =
    let h : p.mark ≤ job = grind (arith, nat_tests) in
    let e : p.mark + (job - p.mark) ≡ job = omega arith in
    let all : unanswered_from 0 (take job rows) ≡ unanswered_from 0 (take p.mark rows) = rw e at (between p rows job is chosen.first chosen.within (job - p.mark) (omega arith)) in
    let one = unanswered-more rows job chosen.within in
    let mine : cond (row_at rows job).answered [] (job ∷ []) ≡ job ∷ [] = rw chosen.open' refl in record {
      jobs = ap (λ (xs : List ℕ). xs ++ job ∷ []) (is.jobs ∙ sym all) ∙ ap (λ (xs : List ℕ). unanswered_from 0 (take job rows) ++ xs) (sym mine) ∙ sym one
          ∙ sym (ap (unanswered_from 0) (take-alter (leased lease) (job + 1) rows job) ∙ unanswered-alter (leased lease) (λ r. refl) 0 (take (job + 1) rows) job);
      unleased = λ other past. let ne : other ≢ job = omega arith in rw (alter-other (leased lease) rows job other fresh ne) (is.unleased other (omega arith));
      within = omega (arith, length-alter (leased lease) rows job, chosen.within);
      room = omega (arith, length-alter (leased lease) rows job, is.room);
    }

pub passed-kept : (p : PendingJobs) (rows : List Row) (copies job lease : ℕ) → IsPending p rows → IsChosen copies rows job → IsPending (passed p job) (alter (leased lease) rows job)
passed-kept p rows copies job lease is chosen = passed-by p rows copies job lease is chosen (ltb job p.mark) refl

-- a lease less
unleased-none : (rows : List Row) (i k : ℕ) → (row_at rows k).running ≡ 0 → (row_at (alter unleased rows i) k).running ≡ 0
unleased-none [] i k none = none
unleased-none (r ∷ rs) zero zero none = rw none refl
unleased-none (r ∷ rs) zero (suc k) none = none
unleased-none (r ∷ rs) (suc i) zero none = none
unleased-none (r ∷ rs) (suc i) (suc k) none = unleased-none rs i k none

pub unleased-kept : (p : PendingJobs) (rows : List Row) (i : ℕ) → IsPending p rows → IsPending p (alter unleased rows i)
unleased-kept p rows i is = record {
  jobs = is.jobs ∙ sym (ap (unanswered_from 0) (take-alter unleased p.mark rows i) ∙ unanswered-alter unleased (λ r. refl) 0 (take p.mark rows) i);
  unleased = λ job past. unleased-none rows i job (is.unleased job past);
  within = omega (arith, length-alter unleased rows i, is.within);
  room = omega (arith, length-alter unleased rows i, is.room);
}

-- an outcome
answered-running : (rows : List Row) (i k : ℕ) → (row_at (alter as_answered rows i) k).running ≡ (row_at rows k).running
answered-running [] i k = refl
answered-running (r ∷ rs) zero zero = refl
answered-running (r ∷ rs) zero (suc k) = refl
answered-running (r ∷ rs) (suc i) zero = refl
answered-running (r ∷ rs) (suc i) (suc k) = answered-running rs i k

without-cond : (job n : ℕ) (t : Bool) (xs ys : List ℕ) → n ≢ job → without job xs ≡ ys → without job (cond t xs (n ∷ xs)) ≡ cond t ys (n ∷ ys)
without-cond job n true xs ys other rest = rest
without-cond job n false xs ys other rest =
    let e : eqb n job ≡ false = grind (arith, nat_tests) in
    rw (e, rest) refl

-- jobs that come later stay
without-earlier : (job n : ℕ) (rs : List Row) → job < n → without job (unanswered_from n rs) ≡ unanswered_from n rs
without-earlier job n [] below = refl
without-earlier job n (r ∷ rs) below =
    let other : n ≢ job = omega arith in
    without-cond job n r.answered (unanswered_from (n + 1) rs) (unanswered_from (n + 1) rs) other (without-earlier job (n + 1) rs (omega arith))

without-first : (n : ℕ) (t : Bool) (xs : List ℕ) → without n xs ≡ xs → without n (cond t xs (n ∷ xs)) ≡ xs
without-first n true xs rest = rest
without-first n false xs rest =
    let e : eqb n n ≡ true = grind (arith, nat_tests) in
    rw e refl

without-answered : (n : ℕ) (rs : List Row) (i : ℕ) → without (n + i) (unanswered_from n rs) ≡ unanswered_from n (alter as_answered rs i)
without-answered n [] i = refl
without-answered n (r ∷ rs) zero =
    let e : n + 0 ≡ n = omega arith in
    rw e (without-first n r.answered (unanswered_from (n + 1) rs) (without-earlier n (n + 1) rs (omega arith)))
without-answered n (r ∷ rs) (suc i) =
    let e : n + suc i ≡ n + 1 + i = omega arith in
    let other : n ≢ n + 1 + i = omega arith in
    rw e (without-cond (n + 1 + i) n r.answered (unanswered_from (n + 1) rs) (unanswered_from (n + 1) (alter as_answered rs i)) other (without-answered (n + 1) rs i))

pub settled-kept : (p : PendingJobs) (rows : List Row) (job : ℕ) → IsPending p rows → IsPending (settled p job) (alter as_answered rows job)
settled-kept p rows job is =
    let e : 0 + job ≡ job = omega arith in
    let out : without job (unanswered_from 0 (take p.mark rows)) ≡ unanswered_from 0 (alter as_answered (take p.mark rows) job) = rw e at (without-answered 0 (take p.mark rows) job) in record {
      jobs = ap (without job) is.jobs ∙ out ∙ ap (unanswered_from 0) (sym (take-alter as_answered p.mark rows job));
      unleased = λ other past. rw (answered-running rows job other) (is.unleased other past);
      within = omega (arith, length-alter as_answered rows job, is.within);
      room = omega (arith, length-alter as_answered rows job, is.room);
    }

length-cond : (t : Bool) (xs : List ℕ) (n m : ℕ) → length xs ≤ m → length (cond t xs (n ∷ xs)) ≤ m + 1
length-cond true xs n m le = omega arith
length-cond false xs n m le = omega arith

unanswered-length : (n : ℕ) (rs : List Row) → length (unanswered_from n rs) ≤ length rs
unanswered-length n [] = omega arith
unanswered-length n (r ∷ rs) = omega (arith, length-cond r.answered (unanswered_from (n + 1) rs) n (length rs) (unanswered-length (n + 1) rs))

-- there is room for the jobs
pub jobs-few : (p : PendingJobs) (rows : List Row) → IsPending p rows → length p.jobs ≤ p.mark
jobs-few p rows is = rw is.jobs (omega (arith, unanswered-length 0 (take p.mark rows), length-take-le p.mark rows is.within))

-- what is left after the place of a job was removed
without-at : (job : ℕ) (xs : List ℕ) (i : ℕ) → i < length xs → eqb (get_or xs i 0) job ≡ true → ((k : ℕ) → k < i → eqb (get_or xs k 0) job ≡ false) → remove xs i ≡ without job xs
without-at job [] i below here before = absurd (omega arith)
without-at job (x ∷ xs) zero below here before = rw here refl
without-at job (x ∷ xs) (suc i) below here before =
    rw (before 0 (omega arith)) (ap (λ ys. x ∷ ys) (without-at job xs i (omega arith) here (λ k less. before (suc k) (omega arith))))

pub without-found : (job : ℕ) (xs : List ℕ) (i : ℕ) → position (λ (x : ℕ). eqb x job) xs ≡ Some i → remove xs i ≡ without job xs
without-found job xs i is =
    let q = position-Some (λ (x : ℕ). eqb x job) xs i 0 is in
    without-at job xs i q.0 q.1 q.2

without-absent : (job : ℕ) (xs : List ℕ) → ((k : ℕ) → k < length xs → eqb (get_or xs k 0) job ≡ false) → without job xs ≡ xs
without-absent job [] none = refl
without-absent job (x ∷ xs) none = rw (none 0 (omega arith)) (ap (λ ys. x ∷ ys) (without-absent job xs (λ k below. none (suc k) (omega arith))))

pub without-none : (job : ℕ) (xs : List ℕ) → position (λ (x : ℕ). eqb x job) xs ≡ None → without job xs ≡ xs
without-none job xs is =
    without-absent job xs (from-none (λ (x : ℕ). eqb x job) 0 xs 0 (sym (position-from (λ (x : ℕ). eqb x job) xs) ∙ is))
