-- The part of a ledger to which the evaluation of some REFs comes.
use Rattle.std.proofs.Common.{◌≡◌, ◌≤◌, ◌⊎◌, inl, inr, ℕ, zero, suc, Bool, true, false, cond, List, [], ◌∷◌, ◌++◌, Option, Some, None, length, map, refl, sym, ap, subst, ◌∙◌, arith}
use Rattle.std.specs.Ordering.{eq_by_cmp}
use Rattle.std.proofs.lemmas.Option.{same_Some, none-some}
use Rattle.object_name.specs.Name.{ObjectName, name_cmp}
use Rattle.thunk_codec.specs.declared.job.Job.{Job}
use Rattle.thunk_codec.specs.declared.reference.Ref.{Ref}
use Rattle.thunk_codec.specs.declared.reference.Ref.TheVariants.{Value, Out}
use Rattle.thunk_codec.specs.declared.job.Outcome.{Outcome}
use Rattle.text_lines.specs.Maybe.{◌>>=◌}
use Rattle.thunk_codec.specs.Thunk.{Parts}
use Rattle.thunk_codec.specs.Reading.{thunk_of}
use Rattle.thunk_codec.specs.Resolved.{refs_of}
use Rattle.thunk_codec.specs.Job.{ref_name}
use Rattle.blob_store.specs.Store.{Contents, held}
use Rattle.object_name.proofs.PublicLaws.{eq_by_cmp-name}
use Rattle.build_law.specs.Denoted.{inputs_by, job_by_values, output_at, denoted_within, IsRefOf, Reached, Wanted, Further}
use Rattle.build_law.proofs.Ledger.{Entry, valued, denoted, AreInputs, IsJob, IsLedger, Among}
use Rattle.build_law.proofs.ValuesStayHeld.{same-name}

-- ---- the job

inputs-are : (value : Ref → Option (List ℕ)) (inputs : List (List ℕ × Ref)) (read : List (List ℕ × List ℕ)) → AreInputs value inputs read → inputs_by value inputs ≡ Some read
inputs-are value [] [] h = refl
inputs-are value [] (j ∷ js) h = absurd h
inputs-are value (i ∷ is) [] h = absurd h
inputs-are value (i ∷ is) (j ∷ js) h =
    ap (λ o. o >>= λ bytes. inputs_by value is >>= λ others. Some ((i.0, bytes) ∷ others)) h.1
    ∙ ap (λ o. o >>= λ others. Some ((i.0, j.1) ∷ others)) (inputs-are value is js h.2)
    ∙ ap (λ path. Some ((path, j.1) ∷ js)) h.0

pub job-is : (value : Ref → Option (List ℕ)) (t : Parts) (job : Job) → IsJob value t job → job_by_values value t ≡ Some job
job-is value t job h =
    ap (λ o. o >>= λ function. inputs_by value t.inputs >>= λ inputs. with_them function inputs) h.function
    ∙ ap (λ o. o >>= λ inputs. with_them job.function inputs) (inputs-are value t.inputs job.inputs h.inputs)
    ∙ λ i. Some (record { function = job.function; args = h.args i; envs = h.envs i; inputs = job.inputs; outputs = h.outputs i })
  where
    with_them : List ℕ → List (List ℕ × List ℕ) → Option Job
    with_them function inputs = Some (record { function = function; args = t.args; envs = t.envs; inputs = inputs; outputs = t.outputs })

-- what is known of some REFs of a thunk is known of its job
inputs-on : (old now : Ref → Option (List ℕ)) (inputs : List (List ℕ × Ref)) (read : List (List ℕ × List ℕ)) → ((r : Ref) (b : List ℕ) → IsRefOf r (map (λ i. i.1) inputs) → old r ≡ Some b → now r ≡ Some b) → AreInputs old inputs read → AreInputs now inputs read
inputs-on old now [] [] knows h = tt
inputs-on old now [] (j ∷ js) knows h = h
inputs-on old now (i ∷ is) [] knows h = h
inputs-on old now (i ∷ is) (j ∷ js) knows h = (h.0, knows i.1 j.1 (inl refl) h.1, inputs-on old now is js (λ r b among. knows r b (inr among)) h.2)

job-on : (old now : Ref → Option (List ℕ)) (t : Parts) (job : Job) → ((r : Ref) (b : List ℕ) → IsRefOf r (refs_of t) → old r ≡ Some b → now r ≡ Some b) → IsJob old t job → IsJob now t job
job-on old now t job knows h = record {
  function = knows t.function job.function (inl refl) h.function;
  inputs = inputs-on old now t.inputs job.inputs (λ r b among. knows r b (inr among)) h.inputs;
  args = h.args;
  envs = h.envs;
  outputs = h.outputs;
}

-- ---- REFs in lists

ref-left : (r : Ref) (a b : List Ref) → IsRefOf r a → IsRefOf r (a ++ b)
ref-left r [] b h = absurd h
ref-left r (x ∷ a) b (inl h) = inl h
ref-left r (x ∷ a) b (inr h) = inr (ref-left r a b h)

ref-right : (r : Ref) (a b : List Ref) → IsRefOf r b → IsRefOf r (a ++ b)
ref-right r [] b h = h
ref-right r (x ∷ a) b h = inr (ref-right r a b h)

ref-either : (r : Ref) (a b : List Ref) → IsRefOf r (a ++ b) → IsRefOf r a ⊎ IsRefOf r b
ref-either r [] b h = inr h
ref-either r (x ∷ a) b (inl h) = inl (inl h)
ref-either r (x ∷ a) b (inr h) = more (ref-either r a b h)
  where
    more : IsRefOf r a ⊎ IsRefOf r b → IsRefOf r (x ∷ a) ⊎ IsRefOf r b
    more (inl h) = inl (inr h)
    more (inr h) = inr h

-- whether a REF to the first output of a thunk is among some
abbrev Absent : ObjectName → List Ref → Type 0
Absent name refs = (other : ObjectName) → name ≡ other → IsRefOf (Out other zero) refs → ⊥

value-out : (a b : ObjectName) (k : ℕ) → Value a ≡ Out b k → ⊥
value-out a b k is = subst IsValue is tt
  where
    IsValue : Ref → Type 0
    IsValue (Value name) = Unit {0}
    IsValue (Out name k) = ⊥

wants : (name : ObjectName) (refs : List Ref) → IsRefOf (Out name zero) refs ⊎ Absent name refs
wants name [] = inr (λ other same h. h)
wants name (Value v ∷ refs) = more (wants name refs)
  where
    more : IsRefOf (Out name zero) refs ⊎ Absent name refs → IsRefOf (Out name zero) (Value v ∷ refs) ⊎ Absent name (Value v ∷ refs)
    more (inl h) = inl (inr h)
    more (inr none) = inr (λ other same h. no other same h)
      where
        no : (other : ObjectName) → name ≡ other → IsRefOf (Out other zero) (Value v ∷ refs) → ⊥
        no other same (inl is) = value-out v other zero is
        no other same (inr h) = none other same h
wants name (Out v (suc k) ∷ refs) = more (wants name refs)
  where
    place : Ref → ℕ
    place (Value name) = 0
    place (Out name k) = k

    more : IsRefOf (Out name zero) refs ⊎ Absent name refs → IsRefOf (Out name zero) (Out v (suc k) ∷ refs) ⊎ Absent name (Out v (suc k) ∷ refs)
    more (inl h) = inl (inr h)
    more (inr none) = inr (λ other same h. no other same h)
      where
        no : (other : ObjectName) → name ≡ other → IsRefOf (Out other zero) (Out v (suc k) ∷ refs) → ⊥
        no other same (inl is) = let at = ap place is in omega (arith, at)
        no other same (inr h) = none other same h
wants name (Out v zero ∷ refs) = more (same-name v name) (wants name refs)
  where
    more : (v ≡ name) ⊎ (v ≡ name → ⊥) → IsRefOf (Out name zero) refs ⊎ Absent name refs → IsRefOf (Out name zero) (Out v zero ∷ refs) ⊎ Absent name (Out v zero ∷ refs)
    more (inl is) rest = inl (inl (ap (λ n. Out n zero) is))
    more (inr differ) (inl h) = inl (inr h)
    more (inr differ) (inr none) = inr (λ other same h. no other same h)
      where
        no : (other : ObjectName) → name ≡ other → IsRefOf (Out other zero) (Out v zero ∷ refs) → ⊥
        no other same (inl is) = differ (ap ref_name is ∙ sym same)
        no other same (inr h) = none other same h

-- ---- the part of the ledger

module _ (outcome : Job → Outcome) (objects : Contents) where
  -- what is reached by the REFs of a thunk that is reached
  reached-through : (refs : List Ref) (s : Parts) → Reached objects refs s → (t : Parts) → Reached objects (refs ++ refs_of s) t → Reached objects refs t
  reached-through refs s of_s t (Wanted name place u among there) = by (ref-either (Out name place) refs (refs_of s) among)
    where
      by : IsRefOf (Out name place) refs ⊎ IsRefOf (Out name place) (refs_of s) → Reached objects refs u
      by (inl h) = Wanted name place u h there
      by (inr h) = Further s name place u of_s h there
  reached-through refs s of_s t (Further x name place u of_x among there) = Further x name place u (reached-through refs s of_s x of_x) among there

  pub record Part (L : List Entry) (refs : List Ref) : Type 0 where
    pub part : List Entry
    pub ledger : IsLedger outcome objects part
    pub sub : (e : Entry) → Among e part → Among e L
    pub values : (r : Ref) (b : List ℕ) → IsRefOf r refs → denoted objects L r ≡ Some b → denoted objects part r ≡ Some b
    pub within : (name : ObjectName) (b : List ℕ) → valued part name ≡ Some b → valued L name ≡ Some b
    pub few : length part ≤ length L
    pub reached : (e : Entry) → Among e part → Reached objects refs e.thunk

  none-of : (found : Option (List ℕ)) → ((b : List ℕ) → found ≡ Some b → ⊥) → found ≡ None
  none-of None never = refl
  none-of (Some b) never = absurd (never b refl)

  pub part_of : (L : List Entry) → IsLedger outcome objects L → (refs : List Ref) → Part L refs
  part_of [] h refs = record { part = []; ledger = tt; sub = λ e among. among; values = λ r b among is. is; within = λ name b is. is; few = omega arith; reached = λ e among. absurd among }
  part_of (e ∷ L) h refs = by (wants e.name refs) (λ more. part_of L h.1 (refs ++ more))
    where
      with_it : IsRefOf (Out e.name zero) refs → Part L (refs ++ refs_of e.thunk) → Part (e ∷ L) refs
      with_it among p =
          let own : Reached objects refs e.thunk = Wanted e.name zero e.thunk among h.0.there in
          record {
            part = e ∷ p.part;
            ledger = (
              record {
                there = h.0.there;
                read = h.0.read;
                job = job-on (denoted objects L) (denoted objects p.part) e.thunk e.job (λ r b among. p.values r b (ref-right r refs (refs_of e.thunk) among)) h.0.job;
                one = h.0.one;
                does = h.0.does;
                kind = h.0.kind;
                fresh = none-of (valued p.part e.name) (λ b is. none-some b (sym h.0.fresh ∙ p.within e.name b is));
              },
              p.ledger,
            );
            sub = λ x among. sub_by x among;
            values = λ r b among. values_by r b among;
            within = λ name b is. within_by name b (eq_by_cmp name_cmp e.name name) is;
            few = let less = p.few in omega (arith, less);
            reached = λ x among. reached_by own x among;
          }
        where
          sub_by : (x : Entry) → Among x (e ∷ p.part) → Among x (e ∷ L)
          sub_by x (inl same) = inl same
          sub_by x (inr among) = inr (p.sub x among)

          within_by : (name : ObjectName) (b : List ℕ) (test : Bool) → cond test (Some e.value) (valued p.part name) ≡ Some b → cond test (Some e.value) (valued L name) ≡ Some b
          within_by name b true is = is
          within_by name b false is = p.within name b is

          out_by : (name : ObjectName) (b : List ℕ) (test : Bool) → IsRefOf (Out name zero) refs → cond test (Some e.value) (valued L name) ≡ Some b → cond test (Some e.value) (valued p.part name) ≡ Some b
          out_by name b true among is = is
          out_by name b false among is = p.values (Out name zero) b (ref-left (Out name zero) refs (refs_of e.thunk) among) is

          values_by : (r : Ref) (b : List ℕ) → IsRefOf r refs → denoted objects (e ∷ L) r ≡ Some b → denoted objects (e ∷ p.part) r ≡ Some b
          values_by (Value name) b among is = is
          values_by (Out name (suc k)) b among is = is
          values_by (Out name zero) b among is = out_by name b (eq_by_cmp name_cmp e.name name) among is

          reached_by : Reached objects refs e.thunk → (x : Entry) → Among x (e ∷ p.part) → Reached objects refs x.thunk
          reached_by own x (inl same) = subst (λ (x : Entry). Reached objects refs x.thunk) same own
          reached_by own x (inr among) = reached-through refs e.thunk own x.thunk (p.reached x among)

      without_it : Absent e.name refs → Part L (refs ++ []) → Part (e ∷ L) refs
      without_it absent p = record {
        part = p.part;
        ledger = p.ledger;
        sub = λ x among. inr (p.sub x among);
        values = λ r b among. values_by r b among;
        within = λ name b is. within_by name b is (eq_by_cmp name_cmp e.name name) refl;
        few = let less = p.few in omega (arith, less);
        reached = λ x among. same_refs x.thunk (p.reached x among);
      }
        where
          out_by : (name : ObjectName) (b : List ℕ) (test : Bool) → eq_by_cmp name_cmp e.name name ≡ test → IsRefOf (Out name zero) refs → cond test (Some e.value) (valued L name) ≡ Some b → valued p.part name ≡ Some b
          out_by name b true is among value = absurd (absent name ((eq_by_cmp-name e.name name).0 is) among)
          out_by name b false is among value = p.values (Out name zero) b (ref-left (Out name zero) refs [] among) value

          values_by : (r : Ref) (b : List ℕ) → IsRefOf r refs → denoted objects (e ∷ L) r ≡ Some b → denoted objects p.part r ≡ Some b
          values_by (Value name) b among is = is
          values_by (Out name (suc k)) b among is = is
          values_by (Out name zero) b among is = out_by name b (eq_by_cmp name_cmp e.name name) refl among is

          within_by : (name : ObjectName) (b : List ℕ) → valued p.part name ≡ Some b → (test : Bool) → eq_by_cmp name_cmp e.name name ≡ test → cond test (Some e.value) (valued L name) ≡ Some b
          within_by name b is true same = absurd (none-some b (sym h.0.fresh ∙ ap (valued L) ((eq_by_cmp-name e.name name).0 same) ∙ p.within name b is))
          within_by name b is false differ = p.within name b is

          same_refs : (t : Parts) → Reached objects (refs ++ []) t → Reached objects refs t
          same_refs t (Wanted name place u among there) = Wanted name place u (first (ref-either (Out name place) refs [] among)) there
            where
              first : IsRefOf (Out name place) refs ⊎ IsRefOf (Out name place) [] → IsRefOf (Out name place) refs
              first (inl h) = h
              first (inr h) = absurd h
          same_refs t (Further x name place u of_x among there) = Further x name place u (same_refs x of_x) among there

      by : IsRefOf (Out e.name zero) refs ⊎ Absent e.name refs → ((more : List Ref) → Part L (refs ++ more)) → Part (e ∷ L) refs
      by (inl among) rest = with_it among (rest (refs_of e.thunk))
      by (inr absent) rest = without_it absent (rest [])

  -- ---- what the ledger says is what REFs denote

  pub denotes : (L : List Entry) → IsLedger outcome objects L → (depth : ℕ) → length L ≤ depth → (r : Ref) (b : List ℕ) → denoted objects L r ≡ Some b → denoted_within outcome objects depth r ≡ Some b
  unfolding denoted_within
  denotes L h depth deep (Value name) b is = by depth
    where
      by : (depth : ℕ) → denoted_within outcome objects depth (Value name) ≡ Some b
      by zero = is
      by (suc d) = is
  denotes L h depth deep (Out name (suc k)) b is = absurd (none-some b is)
  denotes [] h depth deep (Out name zero) b is = absurd (none-some b is)
  denotes (e ∷ L) h zero deep (Out name zero) b is = absurd (omega (arith, deep))
  denotes (e ∷ L) h (suc depth) deep (Out name zero) b is =
      by (λ depth deep r b. denotes L h.1 depth deep r b) (eq_by_cmp name_cmp e.name name) refl is
    where
      by : ((depth : ℕ) → length L ≤ depth → (r : Ref) (b : List ℕ) → denoted objects L r ≡ Some b → denoted_within outcome objects depth r ≡ Some b) →
          (test : Bool) → eq_by_cmp name_cmp e.name name ≡ test → cond test (Some e.value) (valued L name) ≡ Some b → denoted_within outcome objects (suc depth) (Out name zero) ≡ Some b
      by rest false differ is = rest (suc depth) (omega (arith, deep)) (Out name zero) b is
      by rest true same is =
          let job = job-is (denoted_within outcome objects depth) e.thunk e.job (job-on (denoted objects L) (denoted_within outcome objects depth) e.thunk e.job (λ r b among. rest depth (omega (arith, deep)) r b) h.0.job) in
          ap (λ o. o >>= λ text. thunk_of text >>= λ t. job_by_values (denoted_within outcome objects depth) t >>= λ job. output_at (outcome job) zero) (ap (held objects) (sym ((eq_by_cmp-name e.name name).0 same)) ∙ h.0.there)
          ∙ ap (λ o. o >>= λ t. job_by_values (denoted_within outcome objects depth) t >>= λ job. output_at (outcome job) zero) h.0.read
          ∙ ap (λ o. o >>= λ job. output_at (outcome job) zero) job
          ∙ ap (λ o. output_at o zero) h.0.does
          ∙ ap (λ b. Some b) (same_Some e.value b is)

  -- the jobs of a ledger are those of its thunks
  pub jobs-denoted : (L : List Entry) → IsLedger outcome objects L → (e : Entry) → Among e L → job_by_values (denoted_within outcome objects (length L)) e.thunk ≡ Some e.job
  jobs-denoted L h e among = by L h (length L) (omega arith) e among
    where
      by : (L : List Entry) → IsLedger outcome objects L → (depth : ℕ) → length L ≤ depth → (e : Entry) → Among e L → job_by_values (denoted_within outcome objects depth) e.thunk ≡ Some e.job
      by [] h depth deep e among = absurd among
      by (x ∷ L) h depth deep e (inr among) = by L h.1 depth (omega (arith, deep)) e among
      by (x ∷ L) h depth deep e (inl same) = subst (λ (e : Entry). job_by_values (denoted_within outcome objects depth) e.thunk ≡ Some e.job) same
          (job-is (denoted_within outcome objects depth) x.thunk x.job (job-on (denoted objects L) (denoted_within outcome objects depth) x.thunk x.job (λ r b among. denotes L h.1 depth (omega (arith, deep)) r b) h.0.job))
