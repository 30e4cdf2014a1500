-- All is gathered and stored, and then files are changed.
use Rattle.std.proofs.Common.{◌≡◌, map, inl, inr, ℕ, List, [], ◌++◌, Ok, Err, refl, sym, ap, subst, ◌∙◌, append_assoc}
use Rattle.object_name.specs.Streams.{IsPrefix}
use Rattle.blob_store.specs.Store.{Write}
use Rattle.blob_store.specs.Keeping.{Kept, WritesPrefix, all_written}
use Rattle.file_tree.specs.Files.{Filed, ChangesPrefix, all_changed}
use Rattle.file_tree.specs.declared.change.Change.{Change}
use Rattle.file_tree.specs.declared.model_fault.ApplyFault.{ApplyFault}
use Rattle.file_tree.specs.declared.model_fault.ApplyFault.TheVariants as faults
use Rattle.file_tree.proofs.PublicLaws.{all_changed-none}
use Rattle.build_plan.specs.Doing.{Why, Ended, Got, Stopped, Doing, ◌>>=◌, give, go_on, each, state_after}
use Rattle.std.specs.Prelude.{min}
use Rattle.object_name.specs.Name.{ObjectName}
use Rattle.thunk_codec.specs.declared.reference.Ref.{Ref}
use Rattle.build_plan.specs.declared.gathered.Gathered.{Gathered}
use Rattle.build_plan.specs.declared.plan.Plan.{Plan}
use Rattle.build_plan.specs.declared.recipe.Recipe.{Recipe}
use Rattle.build_plan.specs.Creating.{created, function_ref, placeholders, recipe_parts}
use Rattle.build_plan.specs.Way.{change_of, file_input, gathered}
use Rattle.build_plan.specs.Symbolic.{Work, applied, begun, file_changed, input_ref, symbolic, thunk_stored}
use Rattle.build_plan.specs.Applying.{Sides, MakesPrefix, StopsFor, Does}
use Rattle.build_plan.specs.StepContracts.{between, IsAt, with_writes, Leads, StopsAfter, IsCutOff, Goes, Changes, recipe_thunk}
use Rattle.build_plan.proofs.WritesGrow.{Grows, grows-bind, grows-changes, grows-inputs, grows-thunk_stored, prefix-same}
use Rattle.build_plan.proofs.WorkGoesOn.{goes-bind}
use Rattle.build_plan.proofs.FilesAreChanged.{with_changes, all-given}

-- the beginning
pub start : (s : Sides) → IsAt (begun s.kept_before.store s.files_before.files) s.kept_before s.files_before
start s = record { store = refl; files = refl }

longer : (first all : List Write) (a b : Kept) → IsPrefix first all → WritesPrefix first a b → WritesPrefix all a b
longer first all a b p h = record {
  prefix = h.prefix;
  is_prefix = record { rest = h.is_prefix.rest ++ p.rest; whole = p.whole ∙ ap (λ l. l ++ p.rest) h.is_prefix.whole ∙ append_assoc h.prefix h.is_prefix.rest p.rest };
  store = h.store;
  listed = h.listed;
}

module _ {A : Type 0} (work : Doing Work A) (s : Sides) where
  stopped : (why : Why) → StopsAfter work why s → StopsFor (work (begun s.kept_before.store s.files_before.files)) why s
  stopped why h = record {
    last = with_writes (begun s.kept_before.store s.files_before.files) h.leads.made h.thunks;
    stopped = h.leads.goes_on (begun s.kept_before.store s.files_before.files) (start s);
    all = record { kept = h.leads.kept; files = h.leads.files ∙ all_changed-none s.files_before };
    unchanged = h.leads.files;
  }

  cut : IsCutOff work s → MakesPrefix (state_after (work (begun s.kept_before.store s.files_before.files))) s
  cut h = inl (record {
    kept = longer h.first _ s.kept_before s.kept_after (h.begins (begun s.kept_before.store s.files_before.files) (start s)) h.kept;
    files = h.files;
  })

  -- the work ended at a fault
  pub does-fault : (n : ℕ) (fault : ApplyFault) → Goes work n s (Err fault) → Does (work (begun s.kept_before.store s.files_before.files)) s (Err fault)
  does-fault n (faults.Refused refusal) h = stopped _ h
  does-fault n (faults.Reason reason) h = stopped _ h
  does-fault n (faults.Clash name found fresh) h = stopped _ h
  does-fault n faults.StoreFailed h = cut h
  does-fault n faults.FileFailed h = cut h
  does-fault n faults.Memory h = cut h

-- ---- changes of files behind work that gathers

-- the changes behind what was gathered, and what is given in the end
abbrev pub finished : {A B : Type 0} → (A → List Change) → (A → Work → B) → A → Doing Work B
finished changes out x = each file_changed (changes x) >>= λ given w. Got (out x w) w

pub grows-finished : {A B : Type 0} (changes : A → List Change) (out : A → Work → B) (x : A) → Grows (finished changes out x)
grows-finished changes out x = grows-bind (each file_changed (changes x)) (λ given w. Got (out x w) w) (grows-changes (changes x)) (λ given w. prefix-same w.writes)

-- the work ended at a fault, before any change
pub done-fault : {A B : Type 0} (work : Doing Work A) (changes : A → List Change) (out : A → Work → B) (s : Sides) (n : ℕ) (fault : ApplyFault) → Goes work n s (Err fault)
    → Does ((work >>= finished changes out) (begun s.kept_before.store s.files_before.files)) s (Err fault)
done-fault work changes out s n fault h = does-fault (work >>= finished changes out) s n fault (goes-bind work (finished changes out) n n s fault (grows-finished changes out) h)

module _ {A B : Type 0} (work : Doing Work A) (changes : A → List Change) (out : A → Work → B) (a b : Kept) (f g h : Filed) (x : A) (n : ℕ) (leads : Leads work (give x) n (between a b f g)) where
  abbrev w : Work
  w = begun a.store f.files

  abbrev last : Work
  last = with_changes (with_writes w leads.made n) (changes x)

  ends : (work >>= finished changes out) w ≡ Got (out x last) last
  ends =
      let given = all-given (changes x) (with_writes w leads.made n) in
      ap (λ e. go_on e (finished changes out)) (leads.goes_on w (record { store = refl; files = refl }))
      ∙ ap (λ e. go_on e (λ given u. Got (out x u) u)) given.got

  -- all changes are made
  pub done-all : (y : B) → y ≡ out x last → h ≡ all_changed g (changes x) → Does ((work >>= finished changes out) w) (between a b f h) (Ok y)
  done-all y is made = record {
    last = last;
    got = ends ∙ ap (λ y. Got y last) (sym is);
    all = record { kept = leads.kept; files = made ∙ ap (λ (k : Filed). all_changed k (changes x)) leads.files };
  }

  some : ChangesPrefix (changes x) g h → MakesPrefix (state_after ((work >>= finished changes out) w)) (between a b f h)
  some k = inr (record {
    kept = leads.kept ∙ ap (λ (e : Ended Work B). all_written a (state_after e).writes) (sym ends);
    files = subst (λ (l : List Change). ChangesPrefix l f h) (ap (λ (e : Ended Work B). (state_after e).changes) (sym ends)) (subst (λ (k : Filed). ChangesPrefix (changes x) k h) leads.files k);
  })

  -- a prefix of them is made
  pub done-some : (C : Type 0) (r : ApplyFault) → Changes {A = C} (changes x) g h (Err r) → Does ((work >>= finished changes out) w) (between a b f h) (Err r)
  done-some C (faults.Refused refusal) k = absurd k
  done-some C (faults.Reason reason) k = absurd k
  done-some C (faults.Clash name found fresh) k = absurd k
  done-some C faults.StoreFailed k = absurd k
  done-some C faults.FileFailed k = some k
  done-some C faults.Memory k = some k

-- ---- plans and recipes

module _ (plan : Plan) where
  abbrev pub plan_changes : List Gathered → List Change
  plan_changes items = map (change_of symbolic items) plan.targets

  abbrev pub plan_out : List Gathered → Work → ℕ
  plan_out items w = min w.thunks 4294967295

  after-changes : (items : List Gathered) (e : Ended Work (List (Unit {0}))) → go_on (go_on e (λ given. give {A = Unit {0}} tt)) (λ done w. Got (plan_out items w) w) ≡ go_on e (λ given w. Got (plan_out items w) w)
  after-changes items (Got given w) = refl
  after-changes items (Stopped why w) = refl

  after-gathered : (e : Ended Work (List Gathered))
      → go_on (go_on e (λ items. each file_changed (plan_changes items) >>= λ given. give {A = Unit {0}} tt)) (λ done w. Got (min w.thunks 4294967295) w) ≡ go_on e (finished plan_changes plan_out)
  after-gathered (Got items w) = after-changes items (each file_changed (plan_changes items) w)
  after-gathered (Stopped why w) = refl

  -- a plan is applied: its steps, and then its changes
  pub applied-is : (w : Work) → applied plan w ≡ (gathered symbolic plan.steps [] >>= finished plan_changes plan_out) w
  applied-is w = after-gathered (gathered symbolic plan.steps [] w)

module _ (recipe : Recipe) where
  abbrev pub recipe_changes : ObjectName → List Change
  recipe_changes name = placeholders name 0 recipe.outputs

  abbrev pub recipe_out : ObjectName → Work → ObjectName
  recipe_out name w = name

  abbrev pub recipe_work : Doing Work ObjectName
  recipe_work = function_ref recipe.function >>= recipe_thunk recipe

  after-inputs : (function : Ref) (e : Ended Work (List (List ℕ × Ref)))
      → go_on e (λ inputs. thunk_stored (recipe_parts recipe function inputs) >>= finished recipe_changes recipe_out) ≡ go_on (go_on e (λ inputs. thunk_stored (recipe_parts recipe function inputs))) (finished recipe_changes recipe_out)
  after-inputs function (Got inputs w) = refl
  after-inputs function (Stopped why w) = refl

  after-function : (e : Ended Work Ref)
      → go_on e (λ function. each (input_ref []) (map file_input recipe.inputs) >>= λ inputs. thunk_stored (recipe_parts recipe function inputs) >>= finished recipe_changes recipe_out) ≡ go_on (go_on e (recipe_thunk recipe)) (finished recipe_changes recipe_out)
  after-function (Got function w) = after-inputs function (each (input_ref []) (map file_input recipe.inputs) w)
  after-function (Stopped why w) = refl

  -- a recipe is done: its thunk, and then its placeholders
  pub created-is : (w : Work) → created recipe w ≡ (recipe_work >>= finished recipe_changes recipe_out) w
  created-is w = after-function (function_ref recipe.function w)

  pub grows-recipe : (function : Ref) → Grows (recipe_thunk recipe function)
  grows-recipe function =
      grows-bind (each (input_ref []) (map file_input recipe.inputs)) (λ inputs. thunk_stored (recipe_parts recipe function inputs)) (grows-inputs [] (map file_input recipe.inputs)) (λ inputs. grows-thunk_stored (recipe_parts recipe function inputs))
