-- The job that is found among those without an outcome is the one that is found among all rows.
use Rattle.std.proofs.Common.{◌≡◌, ℕ, zero, suc, ◌+◌, ◌<◌, ◌≤◌, List, [], ◌∷◌, ◌++◌, length, take, drop, get_or, Bool, true, false, Option, Some, None, refl, ap, sym, ◌∙◌, arith, cond}
use Rattle.std.specs.Prelude.{if◌then◌else◌}
use Rattle.std.specs.List.{position, position_from, AllByRecursion}
use Rattle.std.specs.Option.{option_map}
use Rattle.std.proofs.lemmas.Iterator.Adapters.{position_from-zero}
use Rattle.std.proofs.lemmas.List.{get_or-take, get_or-drop, take-append-drop, length-take-le, length-take, length-drop}
use Rattle.std.proofs.lemmas.Option.{none-some}
use Rattle.std.proofs.lemmas.Bool.{false≢true}
use Rattle.lease_table.specs.declared.row.Row.{Row}
use Rattle.lease_table.specs.Table.{is_idle, may_copy, better, oldest, fresh}
use Rattle.lease_table.specs.Pending.{PendingJobs, IsPending, row_at, unanswered_from}

-- the first idle job of some
abbrev pub first_of : List Row → List ℕ → Option ℕ
first_of rows [] = None
first_of rows (job ∷ jobs) = if is_idle (row_at rows job) then Some job else first_of rows jobs

-- the best of some jobs
abbrev pub best_of : List Row → ℕ → Option (ℕ × ℕ) → List ℕ → Option (ℕ × ℕ)
best_of rows copies best [] = best
best_of rows copies best (job ∷ jobs) = best_of rows copies (better copies best job (row_at rows job)) jobs

-- some rows are those from a place on
abbrev pub StandAt : List Row → ℕ → List Row → Type 0
StandAt rows n rs = (k : ℕ) → k < length rs → row_at rows (n + k) ≡ row_at rs k

stand-head : (rows : List Row) (n : ℕ) (r : Row) (rs : List Row) → StandAt rows n (r ∷ rs) → row_at rows n ≡ r
stand-head rows n r rs at = let e : n + 0 ≡ n = omega arith in rw e at (at 0 (omega arith))

stand-tail : (rows : List Row) (n : ℕ) (r : Row) (rs : List Row) → StandAt rows n (r ∷ rs) → StandAt rows (n + 1) rs
stand-tail rows n r rs at k below = let e : n + suc k ≡ n + 1 + k = omega arith in rw e at (at (suc k) (omega arith))

first-step : (rows rs : List Row) (n : ℕ) (r : Row) (t : Bool) → r.answered ≡ t → row_at rows n ≡ r → first_of rows (unanswered_from (n + 1) rs) ≡ position_from is_idle (n + 1) rs
    → first_of rows (cond t (unanswered_from (n + 1) rs) (n ∷ unanswered_from (n + 1) rs)) ≡ cond (is_idle r) (Some n) (position_from is_idle (n + 1) rs)
first-step rows rs n r true e at rest = rw e rest
first-step rows rs n r false e at rest = rw at (ap (λ (o : Option ℕ). cond (is_idle r) (Some n) o) rest)

-- the first idle job of those without an outcome
pub first-unanswered : (rows : List Row) (n : ℕ) (rs : List Row) → StandAt rows n rs → first_of rows (unanswered_from n rs) ≡ position_from is_idle n rs
first-unanswered rows n [] at = refl
first-unanswered rows n (r ∷ rs) at = first-step rows rs n r r.answered refl (stand-head rows n r rs at) (first-unanswered rows (n + 1) rs (stand-tail rows n r rs at))

better-answered : (copies : ℕ) (best : Option (ℕ × ℕ)) (n : ℕ) (r : Row) → r.answered ≡ true → better copies best n r ≡ best
better-answered copies best n r e = rw e refl

best-step : (rows rs : List Row) (copies n : ℕ) (r : Row) (best : Option (ℕ × ℕ)) (t : Bool) → r.answered ≡ t → row_at rows n ≡ r
    → ((b : Option (ℕ × ℕ)) → best_of rows copies b (unanswered_from (n + 1) rs) ≡ oldest copies b (n + 1) rs)
    → best_of rows copies best (cond t (unanswered_from (n + 1) rs) (n ∷ unanswered_from (n + 1) rs)) ≡ oldest copies (better copies best n r) (n + 1) rs
best-step rows rs copies n r best true e at rest = rest best ∙ ap (λ (b : Option (ℕ × ℕ)). oldest copies b (n + 1) rs) (sym (better-answered copies best n r e))
best-step rows rs copies n r best false e at rest = rest (better copies best n (row_at rows n)) ∙ ap (λ (q : Row). oldest copies (better copies best n q) (n + 1) rs) at

-- the best of the jobs without an outcome
pub best-unanswered : (rows : List Row) (copies : ℕ) (best : Option (ℕ × ℕ)) (n : ℕ) (rs : List Row) → StandAt rows n rs → best_of rows copies best (unanswered_from n rs) ≡ oldest copies best n rs
best-unanswered rows copies best n [] at = refl
best-unanswered rows copies best n (r ∷ rs) at = best-step rows rs copies n r best r.answered refl (stand-head rows n r rs at) (λ b. best-unanswered rows copies b (n + 1) rs (stand-tail rows n r rs at))

pub oldest-append : (copies : ℕ) (best : Option (ℕ × ℕ)) (n : ℕ) (xs ys : List Row) → oldest copies best n (xs ++ ys) ≡ oldest copies (oldest copies best n xs) (n + length xs) ys
oldest-append copies best n [] ys = let e : n + 0 ≡ n = omega arith in rw e refl
oldest-append copies best n (x ∷ xs) ys = let e : n + suc (length xs) ≡ n + 1 + length xs = omega arith in rw e (oldest-append copies (better copies best n x) (n + 1) xs ys)

better-none : (copies : ℕ) (best : Option (ℕ × ℕ)) (n : ℕ) (r : Row) → may_copy copies r ≡ false → better copies best n r ≡ best
better-none copies best n r e = rw e refl

pub oldest-none : (copies : ℕ) (best : Option (ℕ × ℕ)) (n : ℕ) (rs : List Row) → ((k : ℕ) → k < length rs → may_copy copies (row_at rs k) ≡ false) → oldest copies best n rs ≡ best
oldest-none copies best n [] none = refl
oldest-none copies best n (r ∷ rs) none =
    let e = better-none copies best n r (none 0 (omega arith)) in
    rw e (oldest-none copies best (n + 1) rs (λ k below. none (suc k) (omega arith)))

-- the first place in a list of two parts
cond-some : {A : Type 0} (t : Bool) (x : A) (y z : Option A) (j : A) → (y ≡ Some j → z ≡ Some j) → cond t (Some x) y ≡ Some j → cond t (Some x) z ≡ Some j
cond-some true x y z j next is = is
cond-some false x y z j next is = next is

pub from-left : {A : Type 0} (p : A → Bool) (n : ℕ) (xs ys : List A) (j : ℕ) → position_from p n xs ≡ Some j → position_from p n (xs ++ ys) ≡ Some j
from-left p n [] ys j is = absurd (none-some j is)
from-left p n (x ∷ xs) ys j is = cond-some (p x) n (position_from p (n + 1) xs) (position_from p (n + 1) (xs ++ ys)) j (from-left p (n + 1) xs ys j) is

cond-none : {A : Type 0} (t : Bool) (x : A) (y : Option A) → cond t (Some x) y ≡ None → (t ≡ false) × (y ≡ None)
cond-none true x y is = absurd (none-some x (sym is))
cond-none false x y is = (refl, is)

pub from-right : {A : Type 0} (p : A → Bool) (n : ℕ) (xs ys : List A) → position_from p n xs ≡ None → position_from p n (xs ++ ys) ≡ position_from p (n + length xs) ys
from-right p n [] ys is = let e : n + 0 ≡ n = omega arith in rw e refl
from-right p n (x ∷ xs) ys is =
    let q = cond-none (p x) n (position_from p (n + 1) xs) is in
    let e : n + suc (length xs) ≡ n + 1 + length xs = omega arith in
    rw (q.0, e) (from-right p (n + 1) xs ys q.1)

cond-map : {A : Type 0} (f : A → A) (t : Bool) (x y : A) (o : Option A) → f x ≡ y → cond t (Some y) (option_map f o) ≡ option_map f (cond t (Some x) o)
cond-map f true x y o e = ap Some (sym e)
cond-map f false x y o e = refl

pub from-shift : {A : Type 0} (p : A → Bool) (m n : ℕ) (xs : List A) → position_from p (m + n) xs ≡ option_map (λ k. m + k) (position_from p n xs)
from-shift p m n [] = refl
from-shift p m n (x ∷ xs) =
    let e : m + n + 1 ≡ m + (n + 1) = omega arith in
    rw e (ap (λ (o : Option ℕ). cond (p x) (Some (m + n)) o) (from-shift p m (n + 1) xs) ∙ cond-map (λ (k : ℕ). m + k) (p x) n (m + n) (position_from p (n + 1) xs) refl)

-- nothing passes where no place is found
pub from-none : {A : Type 0} (p : A → Bool) (n : ℕ) (xs : List A) (d : A) → position_from p n xs ≡ None → (k : ℕ) → k < length xs → p (get_or xs k d) ≡ false
from-none p n [] d is k below = absurd (omega arith)
from-none p n (x ∷ xs) d is zero below = (cond-none (p x) n (position_from p (n + 1) xs) is).0
from-none p n (x ∷ xs) d is (suc k) below = from-none p (n + 1) xs d (cond-none (p x) n (position_from p (n + 1) xs) is).1 k (omega arith)

pub position-from : {A : Type 0} (p : A → Bool) (xs : List A) → position p xs ≡ position_from p 0 xs
position-from p xs = position_from-zero p xs

stand-take : (rows : List Row) (mark : ℕ) → StandAt rows 0 (take mark rows)
stand-take rows mark k below =
    let z : 0 + k ≡ k = omega arith in
    let l : k < mark = omega (arith, length-take mark rows) in
    rw z (sym (get_or-take mark rows k fresh l))

-- what is found among the jobs is found among all
pub first-found : (p : PendingJobs) (rows : List Row) (j : ℕ) → IsPending p rows → first_of rows p.jobs ≡ Some j → position is_idle rows ≡ Some j
first-found p rows j is found =
    let here : position_from is_idle 0 (take p.mark rows) ≡ Some j = sym (first-unanswered rows 0 (take p.mark rows) (stand-take rows p.mark)) ∙ ap (first_of rows) (sym is.jobs) ∙ found in
    position-from is_idle rows ∙ ap (position_from is_idle 0) (sym (take-append-drop p.mark rows)) ∙ from-left is_idle 0 (take p.mark rows) (drop p.mark rows) j here

-- where none is found among the jobs, the first one stands from the mark on
pub first-past : (p : PendingJobs) (rows : List Row) → IsPending p rows → first_of rows p.jobs ≡ None → position is_idle rows ≡ option_map (λ past. p.mark + past) (position is_idle (drop p.mark rows))
first-past p rows is none =
    let here : position_from is_idle 0 (take p.mark rows) ≡ None = sym (first-unanswered rows 0 (take p.mark rows) (stand-take rows p.mark)) ∙ ap (first_of rows) (sym is.jobs) ∙ none in
    let l : length (take p.mark rows) ≡ p.mark = length-take-le p.mark rows is.within in
    let e : 0 + length (take p.mark rows) ≡ p.mark + 0 = omega (arith, l) in
    position-from is_idle rows ∙ ap (position_from is_idle 0) (sym (take-append-drop p.mark rows)) ∙ from-right is_idle 0 (take p.mark rows) (drop p.mark rows) here
    ∙ ap (λ (n : ℕ). position_from is_idle n (drop p.mark rows)) e ∙ from-shift is_idle p.mark 0 (drop p.mark rows) ∙ ap (option_map (λ past. p.mark + past)) (sym (position-from is_idle (drop p.mark rows)))

no-copy : (copies : ℕ) (r : Row) (t : Bool) → r.answered ≡ t → is_idle r ≡ false → r.running ≡ 0 → may_copy copies r ≡ false
no-copy copies r true e idle none = rw e refl
no-copy copies r false e idle none = let i : is_idle r ≡ true = rw (e, none) refl in absurd (false≢true (sym idle ∙ i))

-- where none is idle, the best of the jobs is the best of all
pub best-found : (p : PendingJobs) (rows : List Row) (copies : ℕ) → IsPending p rows → position is_idle rows ≡ None → best_of rows copies None p.jobs ≡ oldest copies None 0 rows
best-found p rows copies is busy =
    let some : best_of rows copies None p.jobs ≡ oldest copies None 0 (take p.mark rows) = ap (best_of rows copies None) is.jobs ∙ best-unanswered rows copies None 0 (take p.mark rows) (stand-take rows p.mark) in
    let busy' : position_from is_idle 0 rows ≡ None = sym (position-from is_idle rows) ∙ busy in
    let rest = oldest-none copies (oldest copies None 0 (take p.mark rows)) (0 + length (take p.mark rows)) (drop p.mark rows)
    (λ k below.
    let in' : p.mark + k < length rows = omega (arith, length-drop p.mark rows) in
    let idle = from-none is_idle 0 rows fresh busy' (p.mark + k) in' in
    let none = is.unleased (p.mark + k) (omega arith) in
    rw (get_or-drop p.mark rows k fresh) (no-copy copies (row_at rows (p.mark + k)) (row_at rows (p.mark + k)).answered refl idle none)) in
    some ∙ sym rest ∙ sym (oldest-append copies None 0 (take p.mark rows) (drop p.mark rows)) ∙ ap (oldest copies None 0) (take-append-drop p.mark rows)

below-more : (n m : ℕ) (xs : List ℕ) → n ≤ m → AllByRecursion (λ job. job < n) xs → AllByRecursion (λ job. job < m) xs
below-more n m [] le all = tt
below-more n m (x ∷ xs) le all = (omega (arith, all.0), below-more n m xs le all.1)

below-step : (n : ℕ) (rs : List Row) (t : Bool) → AllByRecursion (λ job. job < n + 1 + length rs) (unanswered_from (n + 1) rs)
    → AllByRecursion (λ job. job < n + 1 + length rs) (cond t (unanswered_from (n + 1) rs) (n ∷ unanswered_from (n + 1) rs))
below-step n rs true rest = rest
below-step n rs false rest = (omega arith, rest)

unanswered-below : (n : ℕ) (rs : List Row) → AllByRecursion (λ job. job < n + length rs) (unanswered_from n rs)
unanswered-below n [] = tt
unanswered-below n (r ∷ rs) = let e : n + suc (length rs) ≡ n + 1 + length rs = omega arith in rw e (below-step n rs r.answered (unanswered-below (n + 1) rs))

-- the jobs have rows
pub jobs-below : (p : PendingJobs) (rows : List Row) → IsPending p rows → AllByRecursion (λ job. job < length rows) p.jobs
jobs-below p rows is =
    let l : length (take p.mark rows) ≡ p.mark = length-take-le p.mark rows is.within in
    rw is.jobs (below-more (0 + length (take p.mark rows)) (length rows) (unanswered_from 0 (take p.mark rows)) (omega (arith, l, is.within)) (unanswered-below 0 (take p.mark rows)))

-- the loops over the jobs
pub first-empty : (rows : List Row) (jobs : List ℕ) → length jobs < 1 → first_of rows jobs ≡ None
first-empty rows [] none = refl
first-empty rows (job ∷ jobs) none = absurd (omega arith)

pub first-head : (rows : List Row) (jobs : List ℕ) → 1 ≤ length jobs → is_idle (row_at rows (get_or jobs 0 0)) ≡ true → first_of rows jobs ≡ Some (get_or jobs 0 0)
first-head rows [] some idle = absurd (omega arith)
first-head rows (job ∷ jobs) some idle = rw idle refl

pub best-empty : (rows : List Row) (copies : ℕ) (best : Option (ℕ × ℕ)) (jobs : List ℕ) → length jobs < 1 → best_of rows copies best jobs ≡ best
best-empty rows copies best [] none = refl
best-empty rows copies best (job ∷ jobs) none = absurd (omega arith)
