-- Storing the outputs of a thunk, one after another, and its note.
use Rattle.std.proofs.Common.{◌≡◌, ◌≤◌, ◌<◌, ◌+◌, inl, inr, ℕ, suc, List, [], ◌∷◌, ◌++◌, length, drop, get_or, refl, sym, ap, subst, ◌∙◌, add-one, append_assoc, append-nil}
use Rattle.std.proofs.Math.Seq.{drop-cons, drop-length}
use Rattle.object_name.specs.Name.{ObjectName, name_of}
use Rattle.thunk_codec.specs.declared.job.Outcome.{Outcome}
use Rattle.thunk_codec.specs.Thunk.{Parts, text_of}
use Rattle.blob_store.specs.Store.{Store, Write, written, after_write}
use Rattle.object_name.specs.Causes.{TriesAtMost}
use Rattle.blob_store.specs.Keeping.{Kept, kept, MayWrite}
use Rattle.reduction_cache.specs.Hit.{note_write}
use Rattle.need_eval.specs.declared.fault.EvalFault.{EvalFault}
use Rattle.need_eval.specs.declared.fault.EvalFault.TheVariants as faults
use Rattle.need_eval.specs.Eval.{State, Ended, Got, Stopped, Eval, go_on, ◌>>=◌, give, each, make_write}
use Rattle.need_eval.specs.Evaluation.{store_one, outputs_by, finished}
use Rattle.need_eval.specs.WritePrefix.{state_after, IsAt, StopsPartWay, Stops}
use Rattle.need_eval.specs.WriteContracts.{Puts, after_writes}
use Rattle.need_eval.proofs.KeptRelations.{Keeps, keeps-then}
use Rattle.blob_store.proofs.PublicLaws.{written-append}
use Rattle.need_eval.proofs.StoreIsWritten.{Grows, Grows-same, Grows-kept, Grows-write, stores-grow}
use Rattle.need_eval.proofs.EachGoesOn.{IsLeft, IsLeft-start, IsLeft-more, IsLeft-end}
use Rattle.need_eval.proofs.StopsOfTheWhole.{Stops-on}
use Rattle.need_eval.proofs.StopsFromEarlier.{Stops-earlier, part_way-unwritten}
use Rattle.need_eval.proofs.ObjectIsStored.{after_writes-both, after_writes-grows}

-- the first of some outputs are stored, by these writes, and what is left is to store the others
pub record ArePut (outputs : List (List ℕ)) (old now : Kept) (i : ℕ) (names : List ObjectName) : Type 0 where
  pub made : List Write
  pub put : now.store ≡ written old.store made
  pub list : now.writes ≡ old.writes ++ made
  pub left : (s : State) → s.store ≡ old.store → IsLeft store_one (each store_one outputs s) names (drop i outputs) (after_writes s made)

-- the count of the keeper has not fallen, and where it tells the first outputs are stored
pub record HasPutSome {K : Type 0} (tells : Type 0) (store : K → Store) (writes : K → List Write) (faults calls : K → ℕ) (retries : ℕ) (outputs : List (List ℕ)) (old now : K) (i : ℕ) (names : List ObjectName) : Type 0 where
  pub later : faults old ≤ faults now
  pub number : length names ≡ i
  pub stored : tells → ArePut outputs (kept store writes old) (kept store writes now) i names
  pub tried : tells → TriesAtMost retries calls faults old now 0

-- no writes
after_writes-none : (s : State) → s ≡ after_writes s []
after_writes-none s = λ i. record s { writes = sym (append-nil s.writes) i }

pub ArePut-start : (outputs : List (List ℕ)) (old : Kept) → ArePut outputs old old 0 []
ArePut-start outputs old = record {
  made = [];
  put = refl;
  list = sym (append-nil old.writes);
  left = λ s same. subst (λ (t : State). IsLeft store_one (each store_one outputs s) [] outputs t) (after_writes-none s) (IsLeft-start store_one outputs s);
}

-- where some writes were made the store is the one with them
put-store : (s : State) (old now : Store) (made : List Write) → s.store ≡ old → now ≡ written old made → (after_writes s made).store ≡ now
put-store s old now made same put = ap (λ store. written store made) same ∙ sym put

-- after some writes that were put the keeper is where the state is
pub at-after : (first : List Write) (s : State) (old now : Kept) (made : List Write) → IsAt first s old → now.store ≡ written old.store made → now.writes ≡ old.writes ++ made → IsAt first (after_writes s made) now
at-after first s old now made at put list = record {
  store = put-store s old.store now.store made at.store put;
  list = list ∙ ap (λ (writes : List Write). writes ++ made) at.list ∙ append_assoc first s.writes made;
}

module _ (outputs : List (List ℕ)) (old now : Kept) (i : ℕ) (names : List ObjectName) (so_far : ArePut outputs old now i names) (output : List ℕ) (within : i < length outputs) (is : output ≡ get_or outputs i output) where
  -- the next output stands first in what is left
  next : (s : State) → s.store ≡ old.store → IsLeft store_one (each store_one outputs s) names (output ∷ drop (suc i) outputs) (after_writes s so_far.made)
  next s same =
      subst (λ (xs : List (List ℕ)). IsLeft store_one (each store_one outputs s) names xs (after_writes s so_far.made))
      (drop-cons outputs i output within ∙ ap (λ (output : List ℕ). output ∷ drop (suc i) outputs) (sym is)) (so_far.left s same)

  -- what follows the next output
  abbrev others : ObjectName → Eval (List ObjectName)
  others name = each store_one (drop (suc i) outputs) >>= λ more. give (name ∷ more)

  -- one more is stored
  pub ArePut-more : (after : Kept) (name : ObjectName) → Puts (store_one output) name now after → ArePut outputs old after (i + 1) (names ++ name ∷ [])
  ArePut-more after name puts = record {
    made = so_far.made ++ puts.made;
    put = puts.put ∙ ap (λ store. written store puts.made) so_far.put ∙ sym (written-append old.store so_far.made puts.made);
    list = puts.list ∙ ap (λ (writes : List Write). writes ++ puts.made) so_far.list ∙ append_assoc old.writes so_far.made puts.made;
    left = λ s same.
        let t = after_writes s so_far.made in
        let one = puts.does t (put-store s old.store now.store so_far.made same so_far.put) in
        let more = IsLeft-more store_one (each store_one outputs s) names output (drop (suc i) outputs) name t (after_writes t puts.made) one (next s same) in
        subst (λ (j : ℕ). IsLeft store_one (each store_one outputs s) (names ++ name ∷ []) (drop j outputs) (after_writes s (so_far.made ++ puts.made))) (sym (add-one i))
        (subst (λ (u : State). IsLeft store_one (each store_one outputs s) (names ++ name ∷ []) (drop (suc i) outputs) u) (after_writes-both s so_far.made puts.made) more);
  }

  -- the next one stops the whole
  pub ArePut-stop : (after : Kept) (fault : EvalFault) → ((first : List Write) (t : State) → IsAt first t now → Stops first t (store_one output t) after fault) → (first : List Write) (s : State) → IsAt first s old → Stops first s (each store_one outputs s) after fault
  ArePut-stop after fault stops first s at =
      let t = after_writes s so_far.made in
      let all : (name : ObjectName) → Keeps Grows (others name) = λ name. keeps-then Grows Grows-kept (each store_one (drop (suc i) outputs)) (λ more. give (name ∷ more)) (stores-grow (drop (suc i) outputs)) (λ _ u. Grows-same u) in
      Stops-earlier first s t (each store_one outputs s) after fault (after_writes-grows s so_far.made)
      (subst (λ (e : Ended (List ObjectName)). Stops first t e after fault) (sym (next s at.store))
      (Stops-on first t (each store_one (output ∷ drop (suc i) outputs) t) (λ more. give (names ++ more)) after fault (λ _ u. Grows-same u)
      (Stops-on first t (store_one output t) others after fault all (stops first t (at-after first s old now so_far.made at so_far.put so_far.list)))))

-- what was stored so far is a prefix of all writes
pub ArePut-prefix : (outputs : List (List ℕ)) (old now : Kept) (i : ℕ) (names : List ObjectName) → ArePut outputs old now i names → (first : List Write) (s : State) → IsAt first s old → StopsPartWay first s (each store_one outputs s) now
ArePut-prefix outputs old now i names so_far first s at =
    let t = after_writes s so_far.made in
    let e = go_on (each store_one (drop i outputs) t) (λ more. give (names ++ more)) in
    let rest : Grows t (state_after e) = left_grows t (each store_one (drop i outputs) t) (stores-grow (drop i outputs) t) in
    Stops-earlier first s t (each store_one outputs s) now faults.Memory (after_writes-grows s so_far.made)
    (subst (λ (e : Ended (List ObjectName)). StopsPartWay first t e now) (sym (so_far.left s at.store))
    (part_way-unwritten first t e now rest (at-after first s old now so_far.made at so_far.put so_far.list)))
  where
    left_grows : (t : State) (e : Ended (List ObjectName)) → Grows t (state_after e) → Grows t (state_after (go_on e (λ more. give (names ++ more))))
    left_grows t (Got more u) h = h
    left_grows t (Stopped why u) h = h

-- all are stored
pub ArePut-end : (outputs : List (List ℕ)) (old now : Kept) (i : ℕ) (names : List ObjectName) → i ≡ length outputs → ArePut outputs old now i names → Puts (each store_one outputs) names old now
ArePut-end outputs old now i names all so_far = record {
  made = so_far.made;
  put = so_far.put;
  list = so_far.list;
  does = λ s same. IsLeft-end store_one (each store_one outputs s) names (after_writes s so_far.made)
      (subst (λ (xs : List (List ℕ)). IsLeft store_one (each store_one outputs s) names xs (after_writes s so_far.made)) (ap (λ j. drop j outputs) all ∙ drop-length outputs) (so_far.left s same));
}

module _ (name resolved : ObjectName) (t : Parts) (outcome : Outcome) (named : resolved ≡ name_of (text_of t)) (old between : Kept) where
  -- what follows the outputs
  abbrev noted_by : ObjectName → List ObjectName → Eval (List ObjectName)
  noted_by resolved outputs = make_write (note_write resolved outputs) >>= λ _. give outputs

  noting-grows : (outputs : List ObjectName) → Keeps Grows (noted_by (name_of (text_of t)) outputs)
  noting-grows outputs s = Grows-write (note_write (name_of (text_of t)) outputs) s tt

  -- the outputs can't be stored
  pub finished-stops : (fault : EvalFault) → ((first : List Write) (s : State) → IsAt first s old → Stops first s (outputs_by name outcome s) between fault) → (first : List Write) (s : State) → IsAt first s old → Stops first s (finished name t outcome s) between fault
  finished-stops fault stops first s at = Stops-on first s (outputs_by name outcome s) (noted_by (name_of (text_of t))) between fault noting-grows (stops first s at)

  module _ (outputs : List ObjectName) (puts : Puts (outputs_by name outcome) outputs old between) where
    finished-is : (s : State) → s.store ≡ old.store → finished name t outcome s ≡ Got outputs (after_writes s (puts.made ++ note_write resolved outputs ∷ []))
    finished-is s same =
        ap (λ e. go_on e (noted_by (name_of (text_of t)))) (puts.does s same)
        ∙ (λ i. noted_by (sym named i) outputs (after_writes s puts.made))
        ∙ ap (λ u. Got outputs u) (after_writes-both s puts.made (note_write resolved outputs ∷ []))

    -- the note is kept
    pub finished-puts : (now : Kept) → now.store ≡ after_write between.store (note_write resolved outputs) → now.writes ≡ between.writes ++ note_write resolved outputs ∷ [] → Puts (finished name t outcome) outputs old now
    finished-puts now noted listed = record {
      made = puts.made ++ note_write resolved outputs ∷ [];
      put = noted ∙ ap (λ store. after_write store (note_write resolved outputs)) puts.put ∙ sym (written-append old.store puts.made (note_write resolved outputs ∷ []));
      list = listed ∙ ap (λ (writes : List Write). writes ++ note_write resolved outputs ∷ []) puts.list ∙ append_assoc old.writes puts.made (note_write resolved outputs ∷ []);
      does = finished-is;
    }

    -- the puts of the outputs stand in the list
    outputs-listed : (now : Kept) → now.writes ≡ between.writes → (first : List Write) (s : State) → IsAt first s old → now.writes ≡ (first ++ s.writes) ++ puts.made
    outputs-listed now unlisted first s at = unlisted ∙ puts.list ∙ ap (λ (writes : List Write). writes ++ puts.made) at.list

    -- the note was kept or not
    pub finished-may : (now : Kept) → MayWrite between.store (note_write resolved outputs) now.store → now.writes ≡ between.writes → (first : List Write) (s : State) → IsAt first s old → StopsPartWay first s (finished name t outcome s) now
    finished-may now (inl unchanged) unlisted first s at = record {
      part = record {
        prefix = puts.made;
        others = note_write resolved outputs ∷ [];
        list = ap (λ e. (state_after e).writes) (finished-is s at.store);
        kept = unchanged ∙ puts.put ∙ ap (λ store. written store puts.made) (sym at.store);
      };
      listed = inl (outputs-listed now unlisted first s at);
    }
    finished-may now (inr noted) unlisted first s at = record {
      part = record {
        prefix = puts.made ++ note_write resolved outputs ∷ [];
        others = [];
        list = ap (λ e. (state_after e).writes) (finished-is s at.store) ∙ ap (λ writes. s.writes ++ writes) (sym (append-nil (puts.made ++ note_write resolved outputs ∷ [])));
        kept = noted ∙ ap (λ store. after_write store (note_write resolved outputs)) puts.put ∙ sym (written-append old.store puts.made (note_write resolved outputs ∷ []))
            ∙ ap (λ store. written store (puts.made ++ note_write resolved outputs ∷ [])) (sym at.store);
      };
      listed = inr (record { prefix = puts.made; last = note_write resolved outputs; split = refl; list = outputs-listed now unlisted first s at });
    }
