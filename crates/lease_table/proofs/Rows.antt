-- Changes of one row, what is left after them, and the row that is chosen.
use Rattle.std.proofs.Common.{◌≡◌, ℕ, zero, suc, ◌+◌, ◌<◌, ◌≤◌, List, [], ◌∷◌, length, get_or, set, Bool, true, false, ◌&&◌, Option, Some, None, refl, ap, sym, ◌∙◌, arith, sum_by, cond}
use Rattle.std.specs.Prelude.{slice_get}
use Rattle.std.specs.List.{position}
use Rattle.std.specs.Option.{option_map}
use Rattle.std.proofs.lemmas.List.Sums.{sum_by-cons, sum_by-set}
use Rattle.std.proofs.lemmas.List.Quantifiers.{position-Some}
use Rattle.std.proofs.lemmas.Option.{none-some, same_Some, slice_get_read, slice_get-get_or, slice_get_within}
use Rattle.std.proofs.lemmas.Bool.{false≢true}
use Rattle.std.proofs.lemmas.Bool.Decides.{nat_tests}
use Rattle.lease_table.specs.declared.row.Row.{Row}
use Rattle.lease_table.specs.declared.row.Lease.{Lease}
use Rattle.lease_table.proofs.Found.{from-none, position-from}
use Rattle.lease_table.specs.Table.{Table, alter, is_idle, may_copy, is_older, better, oldest, choice, choice_of, fresh, leased, unleased, as_answered, copies_left, leases_left, issued, is_open, is_open_lease}

pub alter-set : {A : Type 0} → (f : A → A) (xs : List A) (i : ℕ) (d : A) → alter f xs i ≡ set xs i (f (get_or xs i d))
alter-set f [] i d = refl
alter-set f (x ∷ xs) zero d = refl
alter-set f (x ∷ xs) (suc i) d = ap (λ ys. x ∷ ys) (alter-set f xs i d)

pub length-alter : {A : Type 0} → (f : A → A) (xs : List A) (i : ℕ) → length (alter f xs i) ≡ length xs
length-alter f [] i = refl
length-alter f (x ∷ xs) zero = refl
length-alter f (x ∷ xs) (suc i) = ap suc (length-alter f xs i)

pub sum-alter : {A : Type 0} → (g : A → ℕ) (f : A → A) (xs : List A) (i : ℕ) (d : A) → i < length xs
    → sum_by g (alter f xs i) + g (get_or xs i d) ≡ sum_by g xs + g (f (get_or xs i d))
sum-alter g f xs i d below = rw (alter-set f xs i d) (sum_by-set g xs i (f (get_or xs i d)) d below)

-- a lease of the job may be had
record IsFree (copies : ℕ) (rows : List Row) (id : ℕ) : Type 0 where
  within : id < length rows
  open' : (get_or rows id fresh).answered ≡ false
  free : (get_or rows id fresh).running < copies

-- a lease of the job may be had, and no job before it is idle
pub record IsChosen (copies : ℕ) (rows : List Row) (id : ℕ) : Type 0 where
  pub within : id < length rows
  pub open' : (get_or rows id fresh).answered ≡ false
  pub free : (get_or rows id fresh).running < copies
  pub first : (k : ℕ) → k < id → is_idle (get_or rows k fresh) ≡ false

idle-chosen : (copies : ℕ) (r : Row) → 1 ≤ copies → is_idle r ≡ true → (r.answered ≡ false) × (r.running < copies)
idle-chosen copies r some idle = grind (arith, nat_tests)

copy-chosen : (copies : ℕ) (r : Row) → may_copy copies r ≡ true → (r.answered ≡ false) × (r.running < copies)
copy-chosen copies r may = grind (arith, nat_tests)

-- a job that is the best so far may have a lease
IsGood : ℕ → List Row → Option (ℕ × ℕ) → Type 0
IsGood copies rows best = (b : ℕ × ℕ) → best ≡ Some b → IsFree copies rows b.0

picked-good : (copies : ℕ) (rows : List Row) (best : Option (ℕ × ℕ)) (id : ℕ) (r : Row) → IsGood copies rows best → id < length rows → get_or rows id fresh ≡ r
    → (t : Bool) → may_copy copies r && is_older best r.latest ≡ t → IsGood copies rows (cond t (Some (id, r.latest)) best)
unfolding IsGood
picked-good copies rows best id r good below here true e b is =
    let f = same_Some (id, r.latest) b is in
    let may : may_copy copies r ≡ true = grind (arith, nat_tests) in
    let p = copy-chosen copies r may in
    let at : b.0 ≡ id = sym (ap (λ q. q.0) f) in
    let o : (get_or rows id fresh).answered ≡ false = rw here p.0 in
    let n : (get_or rows id fresh).running < copies = rw here p.1 in
    rw at (record { within = below; open' = o; free = n })
picked-good copies rows best id r good below here false e b is = good b is

better-good : (copies : ℕ) (rows : List Row) (best : Option (ℕ × ℕ)) (id : ℕ) (r : Row) → IsGood copies rows best → id < length rows → get_or rows id fresh ≡ r → IsGood copies rows (better copies best id r)
better-good copies rows best id r good below here = picked-good copies rows best id r good below here (may_copy copies r && is_older best r.latest) refl

oldest-good : (copies : ℕ) (rows : List Row) (best : Option (ℕ × ℕ)) (id : ℕ) (rs : List Row) → IsGood copies rows best
    → ((k : ℕ) → k < length rs → (id + k < length rows) × (get_or rows (id + k) fresh ≡ get_or rs k fresh)) → IsGood copies rows (oldest copies best id rs)
unfolding IsGood
oldest-good copies rows best id [] good at = good
oldest-good copies rows best id (r ∷ rs) good at =
    let here = at 0 (omega arith) in
    let plus : id + 0 ≡ id = omega arith in
    let here' : (id < length rows) × (get_or rows id fresh ≡ r) = rw plus at here in
    oldest-good copies rows (better copies best id r) (id + 1) rs (better-good copies rows best id r good here'.0 here'.1)
    (λ k below. let next = at (suc k) (omega arith) in let e : id + suc k ≡ id + 1 + k = omega arith in rw e at next)

best-free : (copies : ℕ) (rows : List Row) (id : ℕ) (best : Option (ℕ × ℕ)) → IsGood copies rows best → option_map (λ b. b.0) best ≡ Some id → IsFree copies rows id
unfolding IsGood
best-free copies rows id None good is = absurd (none-some id is)
best-free copies rows id (Some b) good is = let e = same_Some b.0 id is in rw (← e) (good b refl)

chosen-by : (copies : ℕ) (rows : List Row) (id : ℕ) (first : Option ℕ) → 1 ≤ copies → position is_idle rows ≡ first → choice_of copies rows first ≡ Some id → IsChosen copies rows id
unfolding IsGood
chosen-by copies rows id (Some found) some first is =
    let p = position-Some is_idle rows found fresh first in
    let q = idle-chosen copies (get_or rows found fresh) some p.1 in
    let e : found ≡ id = cc in
    rw (← e) (record { within = p.0; open' = q.0; free = q.1; first = p.2 })
chosen-by copies rows id None some first is =
    let f = best-free copies rows id (oldest copies None 0 rows) (oldest-good copies rows None 0 rows (λ b e. absurd (none-some b e)) (λ k below. let z : 0 + k ≡ k = omega arith in rw z (below, refl))) is in
    let none = from-none is_idle 0 rows fresh (sym (position-from is_idle rows) ∙ first) in
    record { within = f.within; open' = f.open'; free = f.free; first = λ k below. let in' : k < length rows = omega (arith, f.within) in none k in' }

pub chosen : (copies : ℕ) (rows : List Row) (id : ℕ) → 1 ≤ copies → choice copies rows ≡ Some id → IsChosen copies rows id
unfolding choice
chosen copies rows id some is = chosen-by copies rows id (position is_idle rows) some refl is

-- a lease takes one of those that are left
pub issued-left : (t : Table) (job : ℕ) → 1 ≤ t.copies → choice t.copies t.rows ≡ Some job → leases_left (issued t job) + 1 ≡ leases_left t
issued-left t job some is =
    let c = chosen t.copies t.rows job some is in
    omega (arith, sum-alter (copies_left t.copies) (leased (length t.leases)) t.rows job fresh c.within, c.free)

pub unleased-left : (copies : ℕ) (rows : List Row) (job : ℕ) → sum_by (copies_left copies) (alter unleased rows job) ≤ sum_by (copies_left copies) rows + 1
unleased-left copies [] job = omega arith
unleased-left copies (r ∷ rs) zero = omega (arith, sum_by-cons (copies_left copies) r rs, sum_by-cons (copies_left copies) (unleased r) rs)
unleased-left copies (r ∷ rs) (suc job) = omega (arith, unleased-left copies rs job, sum_by-cons (copies_left copies) r rs, sum_by-cons (copies_left copies) r (alter unleased rs job))

pub answered-left : (copies : ℕ) (rows : List Row) (job : ℕ) → sum_by (copies_left copies) (alter as_answered rows job) ≡ sum_by (copies_left copies) rows
answered-left copies [] job = refl
answered-left copies (r ∷ rs) zero = omega (arith, sum_by-cons (copies_left copies) r rs, sum_by-cons (copies_left copies) (as_answered r) rs)
answered-left copies (r ∷ rs) (suc job) = omega (arith, answered-left copies rs job, sum_by-cons (copies_left copies) r rs, sum_by-cons (copies_left copies) r (alter as_answered rs job))

-- a list in which a changed element was written
pub altered : {A : Type 0} → (f : A → A) (xs : List A) (i : ℕ) (x y : A) → x ≡ get_or xs i x → y ≡ f x → set xs i y ≡ alter f xs i
altered f xs i x y read is = rw (alter-set f xs i x, ← read, is) refl

pub with_rows : Table → List Row → Table
with_rows t rows = record { rows = rows; leases = t.leases; copies = t.copies; losses = t.losses }

-- what was read of the row that is chosen
pub read-chosen : (copies : ℕ) (rows : List Row) (id : ℕ) (x : Row) → IsChosen copies rows id → x ≡ get_or rows id x → (x.running < copies) × (x.answered ≡ false)
read-chosen copies rows id x chosen read =
    let e : x ≡ get_or rows id fresh = same_Some x (get_or rows id fresh) (sym (slice_get_read rows (length rows) id x refl chosen.within read) ∙ slice_get-get_or rows id fresh chosen.within) in
    let n : x.running < copies = rw e chosen.free in
    let o : x.answered ≡ false = rw e chosen.open' in
    (n, o)

some-open : (t : Table) (lease : ℕ) (l : Option Lease) → slice_get t.leases lease ≡ l → is_open_lease t l ≡ true → lease < length t.leases
some-open t lease None at is = absurd (false≢true is)
some-open t lease (Some l) at is = slice_get_within t.leases lease l at

-- a lease that is open was issued
pub open-within : (t : Table) (lease : ℕ) → is_open t lease ≡ true → lease < length t.leases
open-within t lease is = some-open t lease (slice_get t.leases lease) refl is
