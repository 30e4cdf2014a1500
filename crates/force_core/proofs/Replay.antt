-- One more event: the replay, the room that is left, and what a book keeps.
use Rattle.std.proofs.Common.{◌≡◌, ℕ, zero, suc, ◌+◌, ◌<◌, ◌≤◌, List, [], ◌∷◌, ◌++◌, length, get_or, set, map, Bool, true, false, cond, Option, Some, None, refl, ap, sym, ◌∙◌, arith, sum_by, eqb, ltb}
use Rattle.std.specs.Prelude.{slice_get}
use Rattle.std.specs.Option.{option_map, is_some}
use Rattle.std.proofs.lemmas.List.{map-set, length-map, map-append, length_push}
use Rattle.std.proofs.lemmas.List.Sums.{sum_by-cons, sum_by_push}
use Rattle.std.proofs.lemmas.Bool.Decides.{nat_tests}
use Rattle.std.proofs.lemmas.Option.{none-some, same_Some, get_or_from_slice_get, slice_get_within, slice_get-map}
use Rattle.lease_table.specs.declared.row.Row.{Row}
use Rattle.lease_table.specs.declared.row.Lease.{Lease}
use Rattle.lease_table.specs.Table.{alter, alter_at, choice, fresh, leased, unleased, as_answered, as_lost, job_of}
use Rattle.lease_table.proofs.PublicLaws.{alter-set, IsChosen, chosen, sum-alter, length-alter}
use Rattle.force_core.specs.declared.event.Event.{Event}
use Rattle.force_core.specs.declared.event.Event.TheVariants as events
use Rattle.force_core.specs.History.{State, start, may, after, replay}
use Rattle.force_core.specs.Book.{Core, Task, IsBook, AllBelow, row_room, room, entered, entered_with, kept, taken, offered, with_tasks}
use Rattle.thunk_codec.specs.declared.job.Job.{Job}
use Rattle.thunk_codec.specs.declared.job.Outcome.{Outcome}
use Rattle.job_wire.specs.declared.answer.Answer.{Answer}

pub cond_some : {A : Type 0} → (b : Bool) (x : Option A) (y : A) → cond b x None ≡ Some y → (b ≡ true) × (x ≡ Some y)
cond_some true x y is = (refl, is)
cond_some false x y is = absurd (none-some y is)

-- the replay of one event more
pub replay-push : (workers : ℕ) (s : State) (es : List Event) (t : State) (e : Event) → replay workers s es ≡ Some t → may workers t e ≡ true → replay workers s (es ++ e ∷ []) ≡ Some (after t e)
replay-push workers s [] t e is ok =
    let here : s ≡ t = same_Some s t is in
    rw (here, ok) refl
replay-push workers s (x ∷ es) t e is ok =
    let p = cond_some (may workers s x) (replay workers (after s x) es) t is in
    rw p.0 (replay-push workers (after s x) es t e p.1 ok)

-- a loss leaves room for one event less
unleased-room : (copies : ℕ) (rows : List Row) (job : ℕ) → sum_by (row_room copies) (alter unleased rows job) ≤ sum_by (row_room copies) rows + 1
unleased-room copies [] job = omega arith
unleased-room copies (r ∷ rs) zero = omega (arith, sum_by-cons (row_room copies) r rs, sum_by-cons (row_room copies) (unleased r) rs)
unleased-room copies (r ∷ rs) (suc job) = omega (arith, unleased-room copies rs job, sum_by-cons (row_room copies) r rs, sum_by-cons (row_room copies) r (alter unleased rs job))

unleased-at-room : (copies : ℕ) (rows : List Row) (job : Option ℕ) → sum_by (row_room copies) (alter_at unleased rows job) ≤ sum_by (row_room copies) rows + 1
unleased-at-room copies rows None = omega arith
unleased-at-room copies rows (Some job) = unleased-room copies rows job

pub lost-room : (workers : ℕ) (s : State) (lease : ℕ) → may workers s (events.Lost lease) ≡ true → room (after s (events.Lost lease)) + 1 ≤ room s
lost-room workers s lease ok =
    let some : 0 < s.table.losses = grind (arith, nat_tests) in
    omega (arith, unleased-at-room s.table.copies s.table.rows (job_of s.table lease))

-- what a lost lease leaves of the rows
pub unleased-answers : (rows : List Row) (job : ℕ) → map (λ r. r.answered) (alter unleased rows job) ≡ map (λ r. r.answered) rows
unleased-answers [] job = refl
unleased-answers (r ∷ rs) zero = refl
unleased-answers (r ∷ rs) (suc job) = ap (λ xs. r.answered ∷ xs) (unleased-answers rs job)

pub lost-jobs : (leases : List Lease) (lease : ℕ) → map (λ l. l.job) (alter as_lost leases lease) ≡ map (λ l. l.job) leases
lost-jobs [] lease = refl
lost-jobs (l ∷ ls) zero = refl
lost-jobs (l ∷ ls) (suc lease) = ap (λ xs. l.job ∷ xs) (lost-jobs ls lease)

unleased-at-answers : (rows : List Row) (job : Option ℕ) → map (λ r. r.answered) (alter_at unleased rows job) ≡ map (λ r. r.answered) rows
unleased-at-answers rows None = refl
unleased-at-answers rows (Some job) = unleased-answers rows job

unleased-at-length : (rows : List Row) (job : Option ℕ) → length (alter_at unleased rows job) ≡ length rows
unleased-at-length rows None = refl
unleased-at-length rows (Some job) = length-alter unleased rows job

pub lost-book : (b : Core) (lease : ℕ) → IsBook b → may b.workers b.state (events.Lost lease) ≡ true → IsBook (entered b (events.Lost lease))
lost-book b lease is ok = record {
  replayed = replay-push b.workers (start b.workers b.retries b.copies) b.history b.state (events.Lost lease) is.replayed ok;
  rows = unleased-at-answers b.state.table.rows (job_of b.state.table lease) ∙ is.rows;
  leases = rw (lost-jobs b.state.table.leases lease, unleased-at-length b.state.table.rows (job_of b.state.table lease)) is.leases;
  copies = is.copies;
  copies_are = is.copies_are;
}

pub closed-book : (b : Core) → IsBook b → b.state.closed ≡ false → IsBook (entered b events.Closed)
closed-book b is opened = record {
  replayed = replay-push b.workers (start b.workers b.retries b.copies) b.history b.state events.Closed is.replayed (rw opened refl);
  rows = is.rows;
  leases = is.leases;
  copies = is.copies;
  copies_are = is.copies_are;
}

-- a list of numbers that are below
below-get : (n : ℕ) (xs : List ℕ) (k x : ℕ) → AllBelow n xs → slice_get xs k ≡ Some x → x < n
below-get n [] k x all found = absurd (none-some x found)
below-get n (y ∷ ys) zero x all found = rw (← same_Some y x found) all.0
below-get n (y ∷ ys) (suc k) x all found = below-get n ys k x all.1 found

pub below-push : (n : ℕ) (xs : List ℕ) (x : ℕ) → AllBelow n xs → x < n → AllBelow n (xs ++ x ∷ [])
below-push n [] x all below = (below, tt)
below-push n (y ∷ ys) x all below = (all.0, below-push n ys x all.1 below)

pub below-more : (n : ℕ) (xs : List ℕ) → AllBelow n xs → AllBelow (n + 1) xs
below-more n [] all = tt
below-more n (y ∷ ys) all = (omega (arith, all.0), below-more n ys all.1)

-- as many rows as jobs
pub same-length : (b : Core) → IsBook b → length b.state.table.rows ≡ length b.tasks
same-length b is = sym (length-map b.state.table.rows (λ (r : Row). r.answered)) ∙ ap length is.rows ∙ length-map b.tasks (λ (t : Task). is_some t.answer)

-- the job of a lease is there
pub leased-within : (b : Core) (lease id : ℕ) → IsBook b → job_of b.state.table lease ≡ Some id → id < length b.state.table.rows
leased-within b lease id is leased =
    below-get (length b.state.table.rows) (map (λ (l : Lease). l.job) b.state.table.leases) lease id is.leases (slice_get-map (λ (l : Lease). l.job) b.state.table.leases lease ∙ leased)

-- starting
pub started-chosen : (b : Core) (id : ℕ) → IsBook b → choice b.state.table.copies b.state.table.rows ≡ Some id → IsChosen b.state.table.copies b.state.table.rows id
started-chosen b id is choice = chosen b.state.table.copies b.state.table.rows id is.copies choice

pub started-may : (b : Core) (id worker : ℕ) → b.state.closed ≡ false → worker < b.workers → choice b.state.table.copies b.state.table.rows ≡ Some id
    → may b.workers b.state (events.Started (length b.state.table.leases) id worker) ≡ true
started-may b id worker opened below chosen =
    let this : ltb worker b.workers ≡ true = grind (arith, nat_tests) in
    let same : eqb (length b.state.table.leases) (length b.state.table.leases) ≡ true = grind (arith, nat_tests) in
    let at : eqb id id ≡ true = grind (arith, nat_tests) in
    rw (opened, this, same, chosen, at) refl

pub started-room : (b : Core) (id worker : ℕ) → IsBook b → choice b.state.table.copies b.state.table.rows ≡ Some id
    → room (after b.state (events.Started (length b.state.table.leases) id worker)) + 1 ≤ room b.state
started-room b id worker is choice =
    let q = started-chosen b id is choice in
    omega (arith, q.free, sum-alter (row_room b.state.table.copies) (leased (length b.state.table.leases)) b.state.table.rows id fresh q.within)

leased-answers : (n : ℕ) (rows : List Row) (job : ℕ) → map (λ r. r.answered) (alter (leased n) rows job) ≡ map (λ r. r.answered) rows
leased-answers n [] job = refl
leased-answers n (r ∷ rs) zero = refl
leased-answers n (r ∷ rs) (suc job) = ap (λ xs. r.answered ∷ xs) (leased-answers n rs job)

pub started-book : (b : Core) (id worker : ℕ) → IsBook b → b.state.closed ≡ false → worker < b.workers → choice b.state.table.copies b.state.table.rows ≡ Some id
    → IsBook (entered b (events.Started (length b.state.table.leases) id worker))
started-book b id worker is opened below choice =
    let q = started-chosen b id is choice in
    let n = length b.state.table.leases in record {
      replayed = replay-push b.workers (start b.workers b.retries b.copies) b.history b.state (events.Started n id worker) is.replayed (started-may b id worker opened below choice);
      rows = leased-answers n b.state.table.rows id ∙ is.rows;
      leases = rw (map-append (λ (l : Lease). l.job) b.state.table.leases ((record { job = id; lost = false }) ∷ []), length-alter (leased n) b.state.table.rows id)
          (below-push (length b.state.table.rows) (map (λ (l : Lease). l.job) b.state.table.leases) id is.leases q.within);
      copies = is.copies;
      copies_are = is.copies_are;
    }

-- a first outcome
record IsWaiting (rows : List Row) (id : ℕ) : Type 0 where
  row : Row
  found : slice_get rows id ≡ Some row
  waiting : row.answered ≡ false

waiting-by : (rows : List Row) (id : ℕ) (r : Option Row) → slice_get rows id ≡ r → option_map (λ r. r.answered) r ≡ Some false → IsWaiting rows id
waiting-by rows id None at is = absurd (none-some false is)
waiting-by rows id (Some r) at is = record { row = r; found = at; waiting = same_Some r.answered false is }

waiting : (b : Core) (id : ℕ) (t : Task) → IsBook b → slice_get b.tasks id ≡ Some t → t.answer ≡ None → IsWaiting b.state.table.rows id
waiting b id t is found none =
    let one = sym (slice_get-map (λ (r : Row). r.answered) b.state.table.rows id) in
    let two = slice_get-map (λ (t : Task). is_some t.answer) b.tasks id in
    let e : option_map (λ (r : Row). r.answered) (slice_get b.state.table.rows id) ≡ Some false = one ∙ ap (λ (xs : List Bool). slice_get xs id) is.rows ∙ two ∙ ap (option_map (λ (t : Task). is_some t.answer)) found ∙ ap (λ (a : Option Answer). Some (is_some a)) none in
    waiting-by b.state.table.rows id (slice_get b.state.table.rows id) refl e

pub first-may : (b : Core) (lease id : ℕ) (t : Task) → IsBook b → job_of b.state.table lease ≡ Some id → slice_get b.tasks id ≡ Some t → t.answer ≡ None
    → may b.workers b.state (events.First lease) ≡ true
first-may b lease id t is leased found none =
    let w = waiting b id t is found none in
    rw (leased, w.found, w.waiting) refl

pub first-room : (b : Core) (lease id : ℕ) (t : Task) → IsBook b → job_of b.state.table lease ≡ Some id → slice_get b.tasks id ≡ Some t → t.answer ≡ None
    → room (after b.state (events.First lease)) + 1 ≤ room b.state
first-room b lease id t is leased found none =
    let w = waiting b id t is found none in
    let within = slice_get_within b.state.table.rows id w.row w.found in
    let read : get_or b.state.table.rows id w.row ≡ w.row = get_or_from_slice_get b.state.table.rows id w.row w.row w.found in
    let sums = sum-alter (row_room b.state.table.copies) as_answered b.state.table.rows id w.row within in
    let sums' : sum_by (row_room b.state.table.copies) (alter as_answered b.state.table.rows id) + row_room b.state.table.copies w.row ≡ sum_by (row_room b.state.table.copies) b.state.table.rows + row_room b.state.table.copies (as_answered w.row) = rw read at sums in
    let mine : row_room b.state.table.copies w.row ≡ row_room b.state.table.copies (as_answered w.row) + 1 = rw w.waiting (omega arith) in
    rw leased (omega (arith, sums', mine))

pub first-book : (b : Core) (lease id : ℕ) (t : Task) (o : Outcome) → IsBook b → job_of b.state.table lease ≡ Some id → slice_get b.tasks id ≡ Some t → t.answer ≡ None
    → IsBook (entered_with b (events.First lease) (set b.tasks id (kept o t)))
first-book b lease id t o is leased found none = record {
  replayed = replay-push b.workers (start b.workers b.retries b.copies) b.history b.state (events.First lease) is.replayed (first-may b lease id t is leased found none);
  rows = rw leased (ap (map (λ (r : Row). r.answered)) (alter-set as_answered b.state.table.rows id fresh) ∙ map-set (λ (r : Row). r.answered) b.state.table.rows id (as_answered (get_or b.state.table.rows id fresh)) ∙ ap (λ (xs : List Bool). set xs id true) is.rows ∙ sym (map-set (λ (t : Task). is_some t.answer) b.tasks id (kept o t)));
  leases = rw leased (rw (length-alter as_answered b.state.table.rows id) is.leases);
  copies = rw leased is.copies;
  copies_are = rw leased is.copies_are;
}

-- taking
taken-answers : (tasks : List Task) (id : ℕ) → map (λ t. is_some t.answer) (alter taken tasks id) ≡ map (λ t. is_some t.answer) tasks
taken-answers [] id = refl
taken-answers (t ∷ ts) zero = refl
taken-answers (t ∷ ts) (suc id) = ap (λ xs. is_some t.answer ∷ xs) (taken-answers ts id)

pub taken-book : (b : Core) (id : ℕ) → IsBook b → IsBook (with_tasks b (alter taken b.tasks id))
taken-book b id is = record { replayed = is.replayed; rows = is.rows ∙ sym (taken-answers b.tasks id); leases = is.leases; copies = is.copies; copies_are = is.copies_are }

pub alter-past : {A : Type 0} → (f : A → A) (xs : List A) (i : ℕ) → length xs ≤ i → alter f xs i ≡ xs
alter-past f [] i past = refl
alter-past f (x ∷ xs) zero past = absurd (omega arith)
alter-past f (x ∷ xs) (suc i) past = ap (λ ys. x ∷ ys) (alter-past f xs i (omega arith))

pub set-same : {A : Type 0} → (xs : List A) (i : ℕ) (x : A) → slice_get xs i ≡ Some x → set xs i x ≡ xs
set-same [] i x found = refl
set-same (y ∷ ys) zero x found = ap (λ z. z ∷ ys) (sym (same_Some y x found))
set-same (y ∷ ys) (suc i) x found = ap (λ zs. y ∷ zs) (set-same ys i x found)

-- a repeat changes a count alone
pub again-book : (b : Core) → IsBook b → (n : ℕ) → IsBook (record { workers = b.workers; retries = b.retries; copies = b.copies; state = b.state; history = b.history; tasks = b.tasks; agains = n })
again-book b is n = record { replayed = is.replayed; rows = is.rows; leases = is.leases; copies = is.copies; copies_are = is.copies_are }

-- a new job
pub offered-may : (b : Core) → may b.workers b.state (events.Offered (length b.state.table.rows)) ≡ true
offered-may b = grind (arith, nat_tests)

pub offered-room : (b : Core) → room (after b.state (events.Offered (length b.state.table.rows))) ≡ room b.state + b.state.table.copies + 1
offered-room b = omega (arith, sum_by_push (row_room b.state.table.copies) b.state.table.rows fresh)

pub offered-book : (b : Core) (text : List ℕ) (job : Job) → IsBook b → IsBook (entered_with b (events.Offered (length b.state.table.rows)) (b.tasks ++ offered text job ∷ []))
offered-book b text job is = record {
  replayed = replay-push b.workers (start b.workers b.retries b.copies) b.history b.state (events.Offered (length b.state.table.rows)) is.replayed (offered-may b);
  rows = map-append (λ (r : Row). r.answered) b.state.table.rows (fresh ∷ []) ∙ ap (λ (xs : List Bool). xs ++ false ∷ []) is.rows ∙ sym (map-append (λ (t : Task). is_some t.answer) b.tasks (offered text job ∷ []));
  leases = rw (length_push b.state.table.rows fresh) (below-more (length b.state.table.rows) (map (λ (l : Lease). l.job) b.state.table.leases) is.leases);
  copies = is.copies;
  copies_are = is.copies_are;
}
