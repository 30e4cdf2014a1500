-- What storing one object does to the state of work.
use Rattle.std.proofs.Common.{IfOk, OnOk, leb, map, ◌≡◌, ◌+◌, ◌^◌, ◌<◌, ◌≤◌, length, inl, inr, ℕ, suc, List, [], ◌∷◌, ◌++◌, Option, Some, None, Result, Ok, Err, refl, sym, ap, subst, ◌∙◌, append-nil, arith}
use Rattle.std.specs.Prelude.{is_some, option_and_then, bytes_eq, if◌then◌else◌}
use Rattle.object_name.specs.Name.{ObjectName, max_size, name_of}
use Rattle.object_name.specs.Kind.{kind_of}
use Rattle.object_name.specs.declared.kind.Kind.{Kind}
use Rattle.object_name.specs.declared.kind.Kind.TheVariants as kinds
use Rattle.object_name.proofs.PublicLaws.{is-name}
use Rattle.thunk_codec.specs.Card.{card_text}
use Rattle.thunk_codec.specs.Reference.{IsRef}
use Rattle.thunk_codec.specs.declared.reference.Ref.TheVariants as refs
use Rattle.file_tree.specs.declared.model_fault.ApplyFault.TheVariants as faults
use Rattle.file_tree.specs.declared.model_fault.Reason.TheVariants.{WrongKind}
use Rattle.std.specs.List.{AllByRecursion}
use Rattle.std.proofs.lemmas.Bool.{and_parts, leb-true}
use Rattle.thunk_codec.specs.Fitting.{AreFit}
use Rattle.thunk_codec.specs.Thunk.{Parts, IsThunk, keeps_numbers, text_of}
use Rattle.thunk_codec.specs.declared.reference.Ref.{Ref}
use Rattle.blob_store.specs.Store.{Store, held, written, other_held, own_write, storing}
use Rattle.blob_store.specs.Keeping.{Kept, MayStore, Stores, Clashes, StoresAs, ListsStored, ShowsClash}
use Rattle.blob_store.specs.declared.storing.StoreFault.{StoreFault}
use Rattle.blob_store.specs.declared.storing.StoreFault.TheVariants as stores
use Rattle.blob_store.proofs.PublicLaws.{all_written-none}
use Rattle.file_tree.specs.Files.{Filed}
use Rattle.file_tree.specs.declared.model_fault.ApplyFault.{ApplyFault}
use Rattle.build_plan.specs.Doing.Why.{Clash, Unmodelled}
use Rattle.build_plan.specs.Doing.{Got, Stopped, Doing, give, state_after}
use Rattle.build_plan.specs.Symbolic.{Work, stored, stored_by, thunk_stored, value_ref}
use Rattle.build_plan.specs.Applying.{Sides}
use Rattle.build_plan.specs.StepContracts.{between, StopsAfter, IsCutOff, Goes, fault_of_store, parts_with}
use Rattle.build_plan.proofs.WritesGrow.{grows-give, grows-stored, prefix-same}
use Rattle.build_plan.proofs.WorkGoesOn.{with_writes-none, leads-none, leads-cut, leads-bind, goes-bind, goes-found, goes-then}

module _ (bytes : List ℕ) (a b : Kept) (f : Filed) where
  -- it was stored, or held already
  pub goes-stored : (name : ObjectName) → name ≡ name_of bytes → Stores a.store bytes b.store → b.writes ≡ a.writes ++ storing a.store bytes → Goes (stored bytes) 0 (between a b f f) (Ok name)
  goes-stored name named stores listed = record {
    made = storing a.store bytes;
    kept = λ i. record { store = stores.made i; writes = listed i };
    files = refl;
    goes_on = λ w at.
        let none : other_held w.store bytes ≡ None = subst (λ (s : Store). other_held s bytes ≡ None) (sym at.store) stores.no_other in
        let number : w.thunks ≡ w.thunks + 0 = omega arith in
        ap (λ o. stored_by bytes o w) none
        ∙ λ i. Got (sym named i) (record w { store = written w.store (storing (at.store i) bytes); writes = w.writes ++ storing (at.store i) bytes; thunks = number i });
  }

  -- other bytes of its name are held
  goes-clash : (name : ObjectName) (found fresh : List ℕ) → Clashes a.store bytes b.store found → b.writes ≡ a.writes → ShowsClash bytes (Err (stores.Clash name found fresh)) → StopsAfter (stored bytes) (Clash name found fresh) (between a b f f)
  goes-clash name found fresh clashes listed shows =
      let same : b ≡ a = λ i. record { store = clashes.same i; writes = listed i } in
      let named : name_of bytes ≡ name = sym (ap name_of shows.0) ∙ shows.1.second in
      record {
        thunks = 0;
        leads = record {
          made = [];
          kept = same ∙ all_written-none a;
          files = refl;
          goes_on = λ w at.
              let other : other_held w.store bytes ≡ Some found = subst (λ (s : Store). other_held s bytes ≡ Some found) (sym at.store) clashes.other in
              ap (λ o. stored_by bytes o w) other ∙ λ i. Stopped (Clash (named i) found (sym shows.0 i)) (with_writes-none w i);
        };
      }

  -- the keeper failed: the object was written or was not
  goes-may : MayStore a.store bytes b.store → b.writes ≡ a.writes → IsCutOff (stored bytes) (between a b f f)
  goes-may (inl same) listed =
      leads-cut (stored bytes) (stored bytes) 0 (between a b f f) (leads-none (stored bytes) a b f f (λ i. record { store = same i; writes = listed i }) refl) (grows-stored bytes)
  goes-may (inr has) listed = record {
    first = own_write bytes ∷ [];
    kept = record {
      prefix = own_write bytes ∷ [];
      is_prefix = record { rest = []; whole = refl };
      store = has.made;
      listed = inr (record { prefix = []; last = own_write bytes; split = refl; list = listed ∙ sym (append-nil a.writes) });
    };
    files = refl;
    begins = λ w at.
        let free = ap (λ (s : Store). held s.objects (name_of bytes)) at.store ∙ has.free in
        let none : other_held w.store bytes ≡ None = ap (λ found. option_and_then (λ found. if bytes_eq found bytes then None else Some found) found) free in
        let one : storing w.store bytes ≡ own_write bytes ∷ [] = ap (λ (found : Option (List ℕ)). if is_some found then [] else own_write bytes ∷ []) free in
        record {
          rest = [];
          whole = ap (λ o. (state_after (stored_by bytes o w)).writes) none ∙ ap (λ l. w.writes ++ l) one ∙ sym (append-nil (w.writes ++ own_write bytes ∷ []));
        };
  }

  -- it wasn't stored
  pub goes-unstored : (fault : StoreFault) → StoresAs a.store bytes b.store (Err fault) → ListsStored a.store bytes a.writes b.writes (Err fault) → ShowsClash bytes (Err fault) → Goes (stored bytes) 0 (between a b f f) (Err (fault_of_store fault))
  goes-unstored (stores.Clash name found fresh) does listed shows = goes-clash name found fresh does listed shows
  goes-unstored stores.Failed does listed shows = goes-may does listed
  goes-unstored stores.Memory does listed shows = goes-may does listed

-- a thunk is counted
abbrev count : ObjectName → Doing Work ObjectName
count name = λ s. Got name (record s { thunks = suc s.thunks })

pub goes-thunk : (parts : Parts) (a b : Kept) (f : Filed) (r : Result ObjectName ApplyFault) → Goes (stored (text_of parts)) 0 (between a b f f) r → Goes (thunk_stored parts) 1 (between a b f f) r
goes-thunk parts a b f (Ok name) h =
    goes-then (stored (text_of parts)) count name 0 1 a b b f f f (Ok name) h (record {
      made = [];
      kept = all_written-none b;
      files = refl;
      goes_on = λ w at.
          let number : suc w.thunks ≡ w.thunks + 1 = omega arith in
          λ i. Got name (record w { writes = sym (append-nil w.writes) i; thunks = number i });
    })
goes-thunk parts a b f (Err fault) h = goes-bind (stored (text_of parts)) count 0 1 (between a b f f) fault (λ name w. prefix-same w.writes) h

-- ---- values

-- a thunk's text is no value
pub goes-wrong : (bytes : List ℕ) (kind : Kind) (a : Kept) (f : Filed) → kinds.Thunk ≡ kind → Goes (value_ref bytes kind) 0 (between a a f f) (Err (faults.Reason WrongKind))
goes-wrong bytes kind a f is =
    subst (λ kind. Goes (value_ref bytes kind) 0 (between a a f f) (Err (faults.Reason WrongKind))) is
    (goes-found (value_ref bytes kinds.Thunk) (Err (Unmodelled WrongKind)) a f f (Err (faults.Reason WrongKind)) refl (λ w. prefix-same w.writes) (λ w same. refl) refl)

module _ (bytes : List ℕ) (kind : Kind) (s : Sides) (is : kinds.Value ≡ kind) where
  pub goes-value : (name : ObjectName) → Goes (stored bytes) 0 s (Ok name) → Goes (value_ref bytes kind) 0 s (Ok (refs.Value name))
  goes-value name h = subst (λ kind. Goes (value_ref bytes kind) 0 s (Ok (refs.Value name))) is (leads-bind (stored bytes) (λ name. give (refs.Value name)) name 0 s h)

  pub goes-no_value : (fault : ApplyFault) → Goes (stored bytes) 0 s (Err fault) → Goes (value_ref bytes kind) 0 s (Err fault)
  goes-no_value fault h = subst (λ kind. Goes (value_ref bytes kind) 0 s (Err fault)) is (goes-bind (stored bytes) (λ name. give (refs.Value name)) 0 0 s fault (λ name. grows-give (refs.Value name)) h)

-- ---- names

-- the name of a value is a REF
pub value-is_ref : (bytes : List ℕ) (name : ObjectName) → length bytes ≤ max_size → name ≡ name_of bytes → kinds.Value ≡ kind_of bytes → IsRef (refs.Value name)
value-is_ref bytes name small named is = subst (λ name. IsRef (refs.Value name)) (sym named) (is-name bytes small, sym is)

pub card-is_ref : (tool : List ℕ) (name : ObjectName) → length (card_text tool) ≤ max_size → name ≡ name_of (card_text tool) → IsRef (refs.Value name)
card-is_ref tool name small named = value-is_ref (card_text tool) name small named refl

thunk-kind : (parts : Parts) → kind_of (text_of parts) ≡ kinds.Thunk
unfolding text_of
thunk-kind parts = refl

-- an output of a thunk is a REF
pub thunk-is_ref : (parts : Parts) (name : ObjectName) → length (text_of parts) ≤ max_size → name ≡ name_of (text_of parts) → (index : ℕ) → index < 2 ^ 32 → IsRef (refs.Out name index)
thunk-is_ref parts name small named index low = subst (λ name. IsRef (refs.Out name index)) (sym named) (is-name (text_of parts) small, thunk-kind parts, low)

-- a fact on what was named is one on its name
pub named : {X : Type 0} (P Q : X → Type 0) → ((x : X) → P x → Q x) → (r : Result X ApplyFault) → IfOk r P → IfOk r Q
named P Q f (Ok x) h = f x h
named P Q f (Err fault) h = tt

-- ---- thunks

-- parts that fit are a thunk's
pub fits-thunk : (function : Ref) (args others : List (List ℕ)) (envs pairs : List (List ℕ × List ℕ)) (inputs : List (List ℕ × Ref)) (outputs paths : List (List ℕ)) → others ≡ args → pairs ≡ envs → paths ≡ outputs
    → AreFit args envs (map (λ input. input.0) inputs) outputs → IsRef function → AllByRecursion IsRef (map (λ input. input.1) inputs)
    → IsThunk (record { function = function; args = others; envs = pairs; inputs = inputs; outputs = paths })
fits-thunk function args others envs pairs inputs outputs paths a e o fits is refs =
    let same : parts_with function args envs inputs outputs ≡ parts_with function others pairs inputs paths = λ i. record { function = function; args = sym a i; envs = sym e i; inputs = inputs; outputs = sym o i } in
    subst IsThunk same (fits function inputs refl is refs)

-- a thunk has at most 64 outputs
pub few-outputs : (t : Parts) → IsThunk t → length t.outputs ≤ 64
few-outputs t thunk =
    let numbers = and_parts (keeps_numbers t) _ thunk.rules in
    let inputs = and_parts (leb (length t.inputs) 4096) _ numbers.0 in
    let outputs = and_parts (leb 1 (length t.outputs)) (leb (length t.outputs) 64) inputs.1 in
    leb-true (length t.outputs) 64 outputs.1

-- a fact holds where a call succeeded
pub on-ok-of : {X P : Type 0} (r : Result X ApplyFault) → P → OnOk r P
on-ok-of (Ok x) h = h
on-ok-of (Err fault) h = tt
