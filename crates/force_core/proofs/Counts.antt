-- The rows of a table that comes of a history have the counts of its leases.
use Rattle.std.proofs.Common.{◌≡◌, ◌≢◌, ℕ, zero, suc, ◌+◌, ◌≤◌, List, [], ◌∷◌, ◌++◌, length, map, true, false, cond, Option, Some, None, refl, ap, sym, ◌∙◌, arith, eqb, ◌⊎◌, inl, inr}
use Rattle.std.specs.Prelude.{slice_get}
use Rattle.std.specs.Option.{option_map}
use Rattle.std.proofs.lemmas.Bool.Decides.{nat_tests}
use Rattle.std.proofs.lemmas.Bool.{false≢true, cases_eq}
use Rattle.std.proofs.lemmas.Option.{none-some, same_Some}
use Rattle.lease_table.specs.declared.row.Row.{Row}
use Rattle.lease_table.specs.declared.row.Lease.{Lease}
use Rattle.lease_table.specs.Table.{Table, alter, fresh, leased, unleased, as_answered, as_lost, lost, choice, is_open, is_open_lease, job_of}
use Rattle.lease_table.proofs.PublicLaws.{length-alter, chosen}
use Rattle.std.proofs.lemmas.List.{map-append, length_push}
use Rattle.force_core.specs.declared.event.Event.{Event}
use Rattle.force_core.specs.declared.event.Event.TheVariants as events
use Rattle.force_core.specs.History.{State, start, may, after, replay, is_choice, answered_at}
use Rattle.force_core.proofs.Replay.{cond_some, below-push, below-more, lost-jobs}
use Rattle.force_core.specs.Book.{AllBelow}
use Rattle.force_core.specs.Counted.{counts, running_of, latest_from, latest_of, rows_from, IsCounted}

running-push : (id : ℕ) (ls : List Lease) (l : Lease) → running_of id (ls ++ l ∷ []) ≡ running_of id ls + counts id l
running-push id [] l = omega arith
running-push id (x ∷ ls) l = omega (arith, running-push id ls l)

get-altered : {A : Type 0} → (f : A → A) (xs : List A) (i : ℕ) → slice_get (alter f xs i) i ≡ option_map f (slice_get xs i)
get-altered f [] i = refl
get-altered f (x ∷ xs) zero = refl
get-altered f (x ∷ xs) (suc i) = get-altered f xs i

get-other : {A : Type 0} → (f : A → A) (xs : List A) (i k : ℕ) → k ≢ i → slice_get (alter f xs i) k ≡ slice_get xs k
get-other f [] i k other = refl
get-other f (x ∷ xs) zero zero other = absurd (other refl)
get-other f (x ∷ xs) zero (suc k) other = refl
get-other f (x ∷ xs) (suc i) zero other = refl
get-other f (x ∷ xs) (suc i) (suc k) other = get-other f xs i k (λ e. other (ap suc e))

-- a new job has no lease
running-new : (n : ℕ) (ls : List Lease) → AllBelow n (map (λ l. l.job) ls) → running_of n ls ≡ 0
running-new n [] all = refl
running-new n (l ∷ ls) all =
    let other : eqb l.job n ≡ false = grind (arith, nat_tests, all.0) in
    rw other (omega (arith, running-new n ls all.1))

-- a loss takes one from its job, and none from the others
running-lost : (ls : List Lease) (k : ℕ) (l : Lease) → slice_get ls k ≡ Some l → l.lost ≡ false → running_of l.job (alter as_lost ls k) + 1 ≡ running_of l.job ls
running-lost [] k l found kept = absurd (none-some l found)
running-lost (x ∷ ls) zero l found kept =
    let same : x ≡ l = same_Some x l found in
    let here : eqb l.job l.job ≡ true = grind (arith, nat_tests) in
    rw (same, here, kept) (omega arith)
running-lost (x ∷ ls) (suc k) l found kept = omega (arith, running-lost ls k l found kept)

running-unlost : (ls : List Lease) (k id : ℕ) (l : Lease) → slice_get ls k ≡ Some l → id ≢ l.job → running_of id (alter as_lost ls k) ≡ running_of id ls
running-unlost [] k id l found other = refl
running-unlost (x ∷ ls) zero id l found other =
    let same : x ≡ l = same_Some x l found in
    let away : eqb l.job id ≡ false = grind (arith, nat_tests) in
    rw (same, away) refl
running-unlost (x ∷ ls) (suc k) id l found other = omega (arith, running-unlost ls k id l found other)

by-row : (f : Row → Row) (o : Option Row) (r : Row) → option_map f o ≡ Some r → (q : Row) × (o ≡ Some q) × (f q ≡ r)
by-row f None r is = absurd (none-some r is)
by-row f (Some q) r is = (q, refl, same_Some (f q) r is)

-- a start
pub started-counted : (rows : List Row) (ls : List Lease) (j n : ℕ) → ((id : ℕ) (r : Row) → slice_get rows id ≡ Some r → r.running ≡ running_of id ls)
    → (id : ℕ) (r : Row) → slice_get (alter (leased n) rows j) id ≡ Some r → r.running ≡ running_of id (ls ++ (record { job = j; lost = false }) ∷ [])
started-counted rows ls j n counted id r found = elim (cases_eq id j) [
  | inl e ↦
      let at : option_map (leased n) (slice_get rows j) ≡ Some r = sym (get-altered (leased n) rows j) ∙ (rw e at found) in
      let q = by-row (leased n) (slice_get rows j) r at in
      let here : eqb j j ≡ true = grind (arith, nat_tests) in
      let push : running_of j (ls ++ (record { job = j; lost = false }) ∷ []) ≡ running_of j ls + 1 = running-push j ls (record { job = j; lost = false }) ∙ rw here refl in
      rw (e, ← q.2, push) (omega (arith, counted j q.0 q.1))
  | inr other ↦
      let at : slice_get rows id ≡ Some r = sym (get-other (leased n) rows j id other) ∙ found in
      let away : eqb j id ≡ false = grind (arith, nat_tests) in
      let push : running_of id (ls ++ (record { job = j; lost = false }) ∷ []) ≡ running_of id ls + 0 = running-push id ls (record { job = j; lost = false }) ∙ rw away refl in
      rw push (omega (arith, counted id r at))
]

-- a loss
pub lost-counted : (rows : List Row) (ls : List Lease) (k : ℕ) (l : Lease) → slice_get ls k ≡ Some l → l.lost ≡ false → ((id : ℕ) (r : Row) → slice_get rows id ≡ Some r → r.running ≡ running_of id ls)
    → (id : ℕ) (r : Row) → slice_get (alter unleased rows l.job) id ≡ Some r → r.running ≡ running_of id (alter as_lost ls k)
lost-counted rows ls k l at kept counted id r found = elim (cases_eq id l.job) [
  | inl e ↦
      let row : option_map unleased (slice_get rows l.job) ≡ Some r = sym (get-altered unleased rows l.job) ∙ (rw e at found) in
      let q = by-row unleased (slice_get rows l.job) r row in
      rw (e, ← q.2) (omega (arith, counted l.job q.0 q.1, running-lost ls k l at kept))
  | inr other ↦
      let row : slice_get rows id ≡ Some r = sym (get-other unleased rows l.job id other) ∙ found in
      rw (running-unlost ls k id l at other) (counted id r row)
]

answered-counted : (rows : List Row) (ls : List Lease) (j : ℕ) → ((id : ℕ) (r : Row) → slice_get rows id ≡ Some r → r.running ≡ running_of id ls)
    → (id : ℕ) (r : Row) → slice_get (alter as_answered rows j) id ≡ Some r → r.running ≡ running_of id ls
answered-counted rows ls j counted id r found = elim (cases_eq id j) [
  | inl e ↦
      let at : option_map as_answered (slice_get rows j) ≡ Some r = sym (get-altered as_answered rows j) ∙ (rw e at found) in
      let q = by-row as_answered (slice_get rows j) r at in
      rw (e, ← q.2) (counted j q.0 q.1)
  | inr other ↦ counted id r (sym (get-other as_answered rows j id other) ∙ found)
]

get-push : (rows : List Row) (id : ℕ) (r : Row) → slice_get (rows ++ fresh ∷ []) id ≡ Some r → (slice_get rows id ≡ Some r) ⊎ ((id ≡ length rows) × (r ≡ fresh))
get-push [] zero r found = inr (refl, sym (same_Some fresh r found))
get-push [] (suc id) r found = absurd (none-some r found)
get-push (x ∷ rows) zero r found = inl found
get-push (x ∷ rows) (suc id) r found = elim (get-push rows id r found) [ inl at ↦ inl at | inr new ↦ inr (ap suc new.0, new.1) ]

added-counted : (rows : List Row) (ls : List Lease) → AllBelow (length rows) (map (λ l. l.job) ls) → ((id : ℕ) (r : Row) → slice_get rows id ≡ Some r → r.running ≡ running_of id ls)
    → (id : ℕ) (r : Row) → slice_get (rows ++ fresh ∷ []) id ≡ Some r → r.running ≡ running_of id ls
added-counted rows ls within counted id r found = elim (get-push rows id r found) [
  | inl at ↦ counted id r at
  | inr new ↦ rw (new.1, new.0) (sym (running-new (length rows) ls within))
]

-- one lease more
latest-push : (id n best : ℕ) (ls : List Lease) (l : Lease) → latest_from id n best (ls ++ l ∷ []) ≡ cond (eqb l.job id) (n + length ls) (latest_from id n best ls)
latest-push id n best [] l = let e : n + 0 ≡ n = omega arith in rw e refl
latest-push id n best (x ∷ ls) l = let e : n + suc (length ls) ≡ n + 1 + length ls = omega arith in rw e (latest-push id (n + 1) (cond (eqb x.job id) n best) ls l)

latest-lost : (id n best : ℕ) (ls : List Lease) (k : ℕ) → latest_from id n best (alter as_lost ls k) ≡ latest_from id n best ls
latest-lost id n best [] k = refl
latest-lost id n best (x ∷ ls) zero = refl
latest-lost id n best (x ∷ ls) (suc k) = latest-lost id (n + 1) (cond (eqb x.job id) n best) ls k

latest-new : (id n best : ℕ) (ls : List Lease) → AllBelow id (map (λ l. l.job) ls) → latest_from id n best ls ≡ best
latest-new id n best [] all = refl
latest-new id n best (l ∷ ls) all =
    let other : eqb l.job id ≡ false = grind (arith, nat_tests, all.0) in
    rw other (latest-new id (n + 1) best ls all.1)

HasLatest : List Row → List Lease → Type 0
HasLatest rows ls = (id : ℕ) (r : Row) → slice_get rows id ≡ Some r → r.latest ≡ latest_of id ls

started-latest : (rows : List Row) (ls : List Lease) (j : ℕ) → HasLatest rows ls → HasLatest (alter (leased (length ls)) rows j) (ls ++ (record { job = j; lost = false }) ∷ [])
unfolding HasLatest
started-latest rows ls j has id r found = elim (cases_eq id j) [
  | inl e ↦
      let at : option_map (leased (length ls)) (slice_get rows j) ≡ Some r = sym (get-altered (leased (length ls)) rows j) ∙ (rw e at found) in
      let q = by-row (leased (length ls)) (slice_get rows j) r at in
      let here : eqb j j ≡ true = grind (arith, nat_tests) in
      let push : latest_of j (ls ++ (record { job = j; lost = false }) ∷ []) ≡ 0 + length ls = latest-push j 0 0 ls (record { job = j; lost = false }) ∙ rw here refl in
      rw (e, ← q.2, push) (omega arith)
  | inr other ↦
      let at : slice_get rows id ≡ Some r = sym (get-other (leased (length ls)) rows j id other) ∙ found in
      let away : eqb j id ≡ false = grind (arith, nat_tests) in
      let push : latest_of id (ls ++ (record { job = j; lost = false }) ∷ []) ≡ latest_of id ls = latest-push id 0 0 ls (record { job = j; lost = false }) ∙ rw away refl in
      has id r at ∙ sym push
]

unleased-latest : (rows : List Row) (ls : List Lease) (j : ℕ) → HasLatest rows ls → HasLatest (alter unleased rows j) ls
unfolding HasLatest
unleased-latest rows ls j has id r found = elim (cases_eq id j) [
  | inl e ↦
      let at : option_map unleased (slice_get rows j) ≡ Some r = sym (get-altered unleased rows j) ∙ (rw e at found) in
      let q = by-row unleased (slice_get rows j) r at in
      rw (e, ← q.2) (has j q.0 q.1)
  | inr other ↦ has id r (sym (get-other unleased rows j id other) ∙ found)
]

answered-latest : (rows : List Row) (ls : List Lease) (j : ℕ) → HasLatest rows ls → HasLatest (alter as_answered rows j) ls
unfolding HasLatest
answered-latest rows ls j has id r found = elim (cases_eq id j) [
  | inl e ↦
      let at : option_map as_answered (slice_get rows j) ≡ Some r = sym (get-altered as_answered rows j) ∙ (rw e at found) in
      let q = by-row as_answered (slice_get rows j) r at in
      rw (e, ← q.2) (has j q.0 q.1)
  | inr other ↦ has id r (sym (get-other as_answered rows j id other) ∙ found)
]

added-latest : (rows : List Row) (ls : List Lease) → AllBelow (length rows) (map (λ l. l.job) ls) → HasLatest rows ls → HasLatest (rows ++ fresh ∷ []) ls
unfolding HasLatest
added-latest rows ls within has id r found = elim (get-push rows id r found) [
  | inl at ↦ has id r at
  | inr new ↦ rw (new.1, new.0) (sym (latest-new (length rows) 0 0 ls within))
]

lost-leases-latest : (rows : List Row) (ls : List Lease) (k : ℕ) → HasLatest rows ls → HasLatest rows (alter as_lost ls k)
unfolding HasLatest
lost-leases-latest rows ls k has id r found = has id r found ∙ sym (latest-lost id 0 0 ls k)

not-lost : (t : Table) (o : Option Lease) → is_open_lease t o ≡ true → (l : Lease) × (o ≡ Some l) × (l.lost ≡ false)
not-lost t None is = absurd (false≢true is)
not-lost t (Some l) is = (l, refl, grind (arith, nat_tests))

choice-is : (o : Option ℕ) (id : ℕ) → is_choice id o ≡ true → o ≡ Some id
choice-is None id is = absurd (false≢true is)
choice-is (Some c) id is = let e : c ≡ id = grind (arith, nat_tests) in ap (λ n. Some n) e

lost-latest : (rows : List Row) (ls : List Lease) (k j : ℕ) → HasLatest rows ls → HasLatest (alter unleased rows j) (alter as_lost ls k)
lost-latest rows ls k j has = lost-leases-latest (alter unleased rows j) ls k (unleased-latest rows ls j has)

lost-at : (t : Table) (lease : ℕ) → IsCounted t → is_open t lease ≡ true → IsCounted (lost t lease)
unfolding HasLatest
lost-at t lease is ok =
    let l = not-lost t (slice_get t.leases lease) ok in record {
      running = rw l.1 (lost-counted t.rows t.leases lease l.0 l.1 l.2 is.running);
      latest = rw l.1 (lost-latest t.rows t.leases lease l.0.job is.latest);
      within = rw (lost-jobs t.leases lease, l.1) (rw (length-alter unleased t.rows l.0.job) is.within);
      copies = is.copies;
    }

answered-job : (t : Table) (job : Option ℕ) → IsCounted t → IsCounted (answered_at t job)
unfolding HasLatest
answered-job t None is = is
answered-job t (Some j) is = record { running = answered-counted t.rows t.leases j is.running; latest = answered-latest t.rows t.leases j is.latest; within = rw (length-alter as_answered t.rows j) is.within; copies = is.copies }

after-counted : (workers : ℕ) (s : State) (e : Event) → IsCounted s.table → may workers s e ≡ true → IsCounted (after s e).table
unfolding HasLatest
after-counted workers s (events.Offered id) is ok = record { running = added-counted s.table.rows s.table.leases is.within is.running; latest = added-latest s.table.rows s.table.leases is.within is.latest; within = rw (length_push s.table.rows fresh) (below-more (length s.table.rows) (map (λ (l : Lease). l.job) s.table.leases) is.within); copies = is.copies }
after-counted workers s (events.Started lease id worker) is ok =
    let c : is_choice id (choice s.table.copies s.table.rows) ≡ true = grind (arith, nat_tests) in
    let q = chosen s.table.copies s.table.rows id is.copies (choice-is (choice s.table.copies s.table.rows) id c) in record {
      running = started-counted s.table.rows s.table.leases id (length s.table.leases) is.running;
      latest = started-latest s.table.rows s.table.leases id is.latest;
      within = rw (map-append (λ (l : Lease). l.job) s.table.leases ((record { job = id; lost = false }) ∷ []), length-alter (leased (length s.table.leases)) s.table.rows id)
          (below-push (length s.table.rows) (map (λ (l : Lease). l.job) s.table.leases) id is.within q.within);
      copies = is.copies;
    }
after-counted workers s (events.First lease) is ok = answered-job s.table (job_of s.table lease) is
after-counted workers s (events.Lost lease) is ok = let o : is_open s.table lease ≡ true = grind (arith, nat_tests) in lost-at s.table lease is o
after-counted workers s events.Closed is ok = is

-- the state after a history
replay-counted : (workers : ℕ) (s : State) (es : List Event) (t : State) → IsCounted s.table → replay workers s es ≡ Some t → IsCounted t.table
replay-counted workers s [] t is ok = let e : s ≡ t = same_Some s t ok in rw (← e) is
replay-counted workers s (e ∷ es) t is ok =
    let p = cond_some (may workers s e) (replay workers (after s e) es) t ok in
    replay-counted workers (after s e) es t (after-counted workers s e is p.0) p.1

pub history-counted : (workers retries copies : ℕ) (es : List Event) (t : State) → 1 ≤ copies → replay workers (start workers retries copies) es ≡ Some t → IsCounted t.table
unfolding HasLatest
history-counted workers retries copies es t some ok =
    replay-counted workers (start workers retries copies) es t (record { running = λ id r found. absurd (none-some r found); latest = λ id r found. absurd (none-some r found); within = tt; copies = some }) ok

-- rows that have the counts of all leases are those counted from scratch
counted-rows : (n : ℕ) (rs : List Row) (ls : List Lease) → ((k : ℕ) (r : Row) → slice_get rs k ≡ Some r → (r.running ≡ running_of (n + k) ls) × (r.latest ≡ latest_of (n + k) ls)) → rs ≡ rows_from n (map (λ r. r.answered) rs) ls
counted-rows n [] ls all = refl
counted-rows n (r ∷ rs) ls all =
    let z : n + 0 ≡ n = omega arith in
    let here : (r.running ≡ running_of n ls) × (r.latest ≡ latest_of n ls) = rw z at (all 0 r refl) in
    let running : r.running ≡ running_of n ls = here.0 in
    let latest : r.latest ≡ latest_of n ls = here.1 in
    let rest = counted-rows (n + 1) rs ls (λ k q found. let e : n + suc k ≡ n + 1 + k = omega arith in rw e at (all (suc k) q found)) in
    λ i. (record { answered = r.answered; running = running i; latest = latest i }) ∷ rest i

pub counted-scratch : (t : Table) → IsCounted t → t.rows ≡ rows_from 0 (map (λ r. r.answered) t.rows) t.leases
counted-scratch t is = counted-rows 0 t.rows t.leases (λ k r found. let z : 0 + k ≡ k = omega arith in rw z (is.running k r found, is.latest k r found))
