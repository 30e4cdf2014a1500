-- What storing one object does to a state.
use Rattle.std.proofs.Common.{◌≡◌, inl, inr, ℕ, List, [], ◌∷◌, ◌++◌, Option, Some, None, Err, refl, sym, ap, subst, ◌∙◌, append_assoc, append-nil}
use Rattle.std.specs.Prelude.{is_some, option_and_then, bytes_eq, if◌then◌else◌}
use Rattle.object_name.specs.Name.{ObjectName, name_of}
use Rattle.blob_store.specs.Store.{Store, Write, after_write, other_held, own_write, storing}
use Rattle.blob_store.specs.Keeping.{Kept, MayStore, Stores, Clashes, StoresAs, ListsStored, ShowsClash, StoreCause}
use Rattle.blob_store.specs.declared.storing.StoreFault.{StoreFault}
use Rattle.blob_store.specs.declared.storing.StoreFault.TheVariants as stores
use Rattle.need_eval.specs.Eval.{State, Clash, Got, Stopped, Eval, go_on, ◌>>=◌, give, each, make_write}
use Rattle.need_eval.specs.Evaluation.{no_clash, store_one}
use Rattle.need_eval.specs.WritePrefix.{state_after, IsAt, StopsPartWay, StopsWith, Stops}
use Rattle.need_eval.specs.StepContracts.{KeeperCause, fault_of_store}
use Rattle.need_eval.specs.WriteContracts.{Puts, after_writes}
use Rattle.need_eval.proofs.KeptRelations.{keeps-store_one}
use Rattle.blob_store.proofs.PublicLaws.{written-append}
use Rattle.need_eval.proofs.StoreIsWritten.{Grows, Grows-kept, Grows-write}
use Rattle.need_eval.proofs.StopsFromEarlier.{part_way-unwritten}

-- some writes and then others
pub after_writes-both : (s : State) (first others : List Write) → after_writes (after_writes s first) others ≡ after_writes s (first ++ others)
after_writes-both s first others = λ i. record s { store = sym (written-append s.store first others) i; writes = append_assoc s.writes first others i }

-- so it grows
pub after_writes-grows : (s : State) (made : List Write) → Grows s (after_writes s made)
after_writes-grows s made = record { made = made; writes = refl; store = refl }

-- some writes are made
record Makes (writes : List Write) (s : State) : Type 0 where
  given : List (Unit {0})
  got : each make_write writes s ≡ Got given (after_writes s writes)

makes : (writes : List Write) (s : State) → Makes writes s
makes [] s = record { given = []; got = λ i. Got [] (record s { writes = sym (append-nil s.writes) i }) }
makes (write ∷ writes) s =
    let next = record s { store = after_write s.store write; writes = s.writes ++ write ∷ [] } in
    let rest = makes writes next in
    record {
      given = tt ∷ rest.given;
      got = ap (λ e. go_on e (λ given. give (tt ∷ given))) rest.got ∙ λ i. Got (tt ∷ rest.given) (after_writes-both s (write ∷ []) writes i);
    }

module _ (bytes : List ℕ) (s : State) where
  -- what follows where no other bytes are held
  abbrev after_check : Unit {0} → Eval ObjectName
  after_check done = each make_write (storing s.store bytes) >>= λ _. give (name_of bytes)

  store_one-free : other_held s.store bytes ≡ None → store_one bytes s ≡ Got (name_of bytes) (after_writes s (storing s.store bytes))
  store_one-free none =
      ap (λ found. go_on (no_clash bytes found s) after_check) none
      ∙ ap (λ e. go_on e (λ _. give (name_of bytes))) (makes (storing s.store bytes) s).got

  store_one-clash : (now : Store) (name : ObjectName) (found fresh : List ℕ) → other_held s.store bytes ≡ Some found → name ≡ name_of bytes → fresh ≡ bytes → now ≡ s.store → StopsWith (Clash name found fresh) (store_one bytes s) now
  store_one-clash now name found fresh other named same_bytes same = record {
    last = s;
    stopped = ap (λ found. go_on (no_clash bytes found s) after_check) other ∙ λ i. Stopped (Clash (sym named i) found (sym same_bytes i)) s;
    store = same;
  }

  -- a clash comes before anything is written
  clash-writes : (found : List ℕ) → other_held s.store bytes ≡ Some found → s.writes ≡ (state_after (store_one bytes s)).writes
  clash-writes found other = sym (ap (λ found. (state_after (go_on (no_clash bytes found s) after_check)).writes) other)

  store_one-may : (first : List Write) (now : Kept) → MayStore s.store bytes now.store → now.writes ≡ first ++ s.writes → StopsPartWay first s (store_one bytes s) now
  store_one-may first now (inl same) list = part_way-unwritten first s (store_one bytes s) now (keeps-store_one Grows Grows-kept Grows-write bytes s) (record { store = sym same; list = list })
  store_one-may first now (inr stored) list =
      let none : other_held s.store bytes ≡ None = ap (λ found. option_and_then (λ found. if bytes_eq found bytes then None else Some found) found) stored.free in
      let one : storing s.store bytes ≡ own_write bytes ∷ [] = ap (λ (found : Option (List ℕ)). if is_some found then [] else own_write bytes ∷ []) stored.free in
      record {
        part = record {
          prefix = own_write bytes ∷ [];
          others = [];
          list = ap (λ e. (state_after e).writes) (store_one-free none) ∙ ap (λ writes. s.writes ++ writes) one;
          kept = stored.made;
        };
        listed = inr (record { prefix = []; last = own_write bytes; split = refl; list = list ∙ sym (append-nil (first ++ s.writes)) });
      }

-- what storing did is what the definition gives
pub kept_puts : (bytes : List ℕ) (old now : Kept) (name : ObjectName) → name ≡ name_of bytes → Stores old.store bytes now.store → now.writes ≡ old.writes ++ storing old.store bytes → Puts (store_one bytes) name old now
kept_puts bytes old now name named stored list = record {
  made = storing old.store bytes;
  put = stored.made;
  list = list;
  does = λ s same.
      let none : other_held s.store bytes ≡ None = subst (λ (store : Store). other_held store bytes ≡ None) (sym same) stored.no_other in
      store_one-free bytes s none ∙ λ i. Got (sym named i) (after_writes s (storing (same i) bytes));
}

-- and so is where it stopped
pub kept_stops : (bytes : List ℕ) (first : List Write) (s : State) (old now : Kept) (fault : StoreFault) → IsAt first s old → StoresAs old.store bytes now.store (Err fault) → ListsStored old.store bytes old.writes now.writes (Err fault) → ShowsClash bytes (Err fault) → Stops first s (store_one bytes s) now (fault_of_store fault)
kept_stops bytes first s old now (stores.Clash name found fresh) at h list shows =
    let here : Clashes s.store bytes now.store found = subst (λ (store : Store). Clashes store bytes now.store found) (sym at.store) h in
    let stops = store_one-clash bytes s now.store name found fresh here.other (sym shows.1.second ∙ ap name_of shows.0) shows.0 here.same in
    (stops, list ∙ at.list ∙ ap (λ (writes : List Write). first ++ writes) (clash-writes bytes s found here.other))
kept_stops bytes first s old now stores.Failed at h list shows =
    store_one-may bytes s first now (subst (λ (store : Store). MayStore store bytes now.store) (sym at.store) h) (list ∙ at.list)
kept_stops bytes first s old now stores.Memory at h list shows =
    store_one-may bytes s first now (subst (λ (store : Store). MayStore store bytes now.store) (sym at.store) h) (list ∙ at.list)

-- what a fault shows
pub kept_cause : (bytes : List ℕ) (retries before after : ℕ) (fault : StoreFault) → StoreCause retries before after (Err fault) → ShowsClash bytes (Err fault) → KeeperCause retries before after (fault_of_store fault)
kept_cause bytes retries before after (stores.Clash name found fresh) h shows = shows.1
kept_cause bytes retries before after stores.Failed h shows = h
kept_cause bytes retries before after stores.Memory h shows = h
