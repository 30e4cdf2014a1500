-- What storing one object does, by what is held under its name.
use Rattle.std.proofs.Common.{◌≡◌, ℕ, Bool, true, false, cond, List, [], ◌∷◌, ◌++◌, Option, Some, None, map, refl, sym, ap, subst, ◌∙◌}
use Rattle.std.specs.Prelude.{is_some, bytes_eq, option_and_then}
use Rattle.std.specs.List.{AllByRecursion}
use Rattle.std.proofs.lemmas.Slice.Eq.{bytes_eq-Decides}
use Rattle.object_name.specs.Name.{ObjectName, name_of}
use Rattle.blob_store.specs.Store.{held, after_write, own_write}
use Rattle.need_eval.specs.Eval.{State, Clash, Ended, Got, Stopped, Eval, go_on, ◌>>=◌, give, each, make_write}
use Rattle.need_eval.specs.Evaluation.{no_clash, store_one}
use Rattle.need_eval.specs.MetObjects.{IsHeld}
use Rattle.need_eval.proofs.HeldStays.{HoldsAll, write-holds}

-- the state after the object is written
abbrev pub with_object : List ℕ → State → State
with_object bytes s = record s { store = after_write s.store (own_write bytes); writes = s.writes ++ own_write bytes ∷ [] }

pub data StoreCase (bytes : List ℕ) (s : State) : Type 0 where
  Known : held s.store.objects (name_of bytes) ≡ Some bytes → store_one bytes s ≡ Got (name_of bytes) s → StoreCase bytes s
  New : held s.store.objects (name_of bytes) ≡ None → store_one bytes s ≡ Got (name_of bytes) (with_object bytes s) → StoreCase bytes s
  Other : (found : List ℕ) → held s.store.objects (name_of bytes) ≡ Some found → (found ≡ bytes → ⊥) → store_one bytes s ≡ Stopped (Clash (name_of bytes) found bytes) s → StoreCase bytes s

-- storing, by what is held
abbrev stored_by : List ℕ → Option (List ℕ) → State → Ended ObjectName
stored_by bytes o s =
    go_on (no_clash bytes (option_and_then (λ found. cond (bytes_eq found bytes) None (Some found)) o) s)
    (λ _. each make_write (cond (is_some o) [] (own_write bytes ∷ [])) >>= λ _. give (name_of bytes))

-- where something is held, by whether it is this
abbrev unless_equal : List ℕ → List ℕ → Bool → State → Ended ObjectName
unless_equal bytes found test s = go_on (no_clash bytes (cond test None (Some found)) s) (λ _. each make_write [] >>= λ _. give (name_of bytes))

pub known-does : (bytes : List ℕ) (s : State) → IsHeld s.store bytes → store_one bytes s ≡ Got (name_of bytes) s
known-does bytes s is = ap (λ o. stored_by bytes o s) is ∙ ap (λ test. unless_equal bytes bytes test s) ((bytes_eq-Decides bytes bytes).1 refl)

pub new-does : (bytes : List ℕ) (s : State) → held s.store.objects (name_of bytes) ≡ None → store_one bytes s ≡ Got (name_of bytes) (with_object bytes s)
new-does bytes s is = ap (λ o. stored_by bytes o s) is

pub store_case : (bytes : List ℕ) (s : State) → StoreCase bytes s
store_case bytes s = by (held s.store.objects (name_of bytes)) refl
  where
    found_by : (found : List ℕ) → held s.store.objects (name_of bytes) ≡ Some found → (test : Bool) → bytes_eq found bytes ≡ test → StoreCase bytes s
    found_by found is true same =
        Known (is ∙ ap (λ b. Some b) ((bytes_eq-Decides found bytes).0 same)) (ap (λ o. stored_by bytes o s) is ∙ ap (λ test. unless_equal bytes found test s) same)
    found_by found is false other =
        Other found is (λ e. cc (sym other ∙ (bytes_eq-Decides found bytes).1 e)) (ap (λ o. stored_by bytes o s) is ∙ ap (λ test. unless_equal bytes found test s) other)

    by : (o : Option (List ℕ)) → held s.store.objects (name_of bytes) ≡ o → StoreCase bytes s
    by None is = New is (new-does bytes s is)
    by (Some found) is = found_by found is (bytes_eq found bytes) refl

pub all-known : (outputs : List (List ℕ)) (s : State) → AllByRecursion (IsHeld s.store) outputs → each store_one outputs s ≡ Got (map name_of outputs) s
all-known [] s h = refl
all-known (bytes ∷ outputs) s h =
    ap (λ e. go_on e (λ y. each store_one outputs >>= λ ys. give (y ∷ ys))) (known-does bytes s h.0)
    ∙ ap (λ e. go_on e (λ ys. give (name_of bytes ∷ ys))) (all-known outputs s h.1)

-- where something is given it is this
abbrev pub GivesOnly : {A : Type 0} → A → Ended A → Type 0
GivesOnly y (Got x s) = x ≡ y
GivesOnly y (Stopped why s) = Unit {0}

gives-only : {A B : Type 0} (y : A) (w : B) (e : Ended A) (f : A → Eval B) → GivesOnly y e → ((s : State) → GivesOnly w (f y s)) → GivesOnly w (go_on e f)
gives-only y w (Got x s) f h next = subst (λ y. GivesOnly w (f y s)) (sym h) (next s)
gives-only y w (Stopped why s) f h next = tt

store-names : (bytes : List ℕ) (s : State) → GivesOnly (name_of bytes) (store_one bytes s)
store-names bytes s = by (store_case bytes s)
  where
    by : StoreCase bytes s → GivesOnly (name_of bytes) (store_one bytes s)
    by (Known there does) = subst (GivesOnly (name_of bytes)) (sym does) refl
    by (New none does) = subst (GivesOnly (name_of bytes)) (sym does) refl
    by (Other found there differ does) = subst (GivesOnly (name_of bytes)) (sym does) tt

pub all-names : (outputs : List (List ℕ)) (s : State) → GivesOnly (map name_of outputs) (each store_one outputs s)
all-names [] s = refl
all-names (bytes ∷ outputs) s =
    gives-only (name_of bytes) (map name_of (bytes ∷ outputs)) (store_one bytes s) (λ y. each store_one outputs >>= λ ys. give (y ∷ ys)) (store-names bytes s)
    (λ t. gives-only (map name_of outputs) (map name_of (bytes ∷ outputs)) (each store_one outputs t) (λ ys. give (name_of bytes ∷ ys)) (all-names outputs t) (λ u. refl))

-- what was held stays held
pub with_object-holds : (bytes : List ℕ) (s : State) → held s.store.objects (name_of bytes) ≡ None → HoldsAll s.store (with_object bytes s).store
with_object-holds bytes s none = write-holds s.store (own_write bytes) none
