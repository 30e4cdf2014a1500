-- A ledger stays one where the store grows, and takes one thunk more.
use Rattle.std.proofs.Common.{◌≡◌, ℕ, zero, suc, Bool, true, false, cond, List, [], ◌∷◌, Option, Some, None, refl, sym, ap, subst, ◌∙◌}
use Rattle.std.specs.Ordering.{eq_by_cmp}
use Rattle.std.proofs.lemmas.Option.{same_Some, none-some}
use Rattle.object_name.specs.Name.{ObjectName, name_cmp}
use Rattle.thunk_codec.specs.declared.job.Job.{Job}
use Rattle.thunk_codec.specs.declared.reference.Ref.{Ref}
use Rattle.thunk_codec.specs.declared.reference.Ref.TheVariants.{Value, Out}
use Rattle.thunk_codec.specs.declared.job.Outcome.{Outcome}
use Rattle.thunk_codec.specs.declared.job.Outcome.TheVariants.{Done}
use Rattle.thunk_codec.specs.Thunk.{Parts, text_of}
use Rattle.thunk_codec.specs.Reading.{thunk_of}
use Rattle.blob_store.specs.Store.{Contents, held}
use Rattle.object_name.proofs.PublicLaws.{eq_by_cmp-name}
use Rattle.build_law.proofs.Ledger.{Entry, valued, denoted, AreInputs, IsJob, IsLedger}
use Rattle.build_law.proofs.ValuesStayHeld.{HoldsAll}
use Rattle.build_law.proofs.ThunksOfLedger.{first_output}

-- what one knows the other knows
abbrev pub Knows : (Ref → Option (List ℕ)) → (Ref → Option (List ℕ)) → Type 0
Knows old now = (r : Ref) (b : List ℕ) → old r ≡ Some b → now r ≡ Some b

inputs-known : (old now : Ref → Option (List ℕ)) → Knows old now → (inputs : List (List ℕ × Ref)) (read : List (List ℕ × List ℕ)) → AreInputs old inputs read → AreInputs now inputs read
inputs-known old now knows [] [] h = tt
inputs-known old now knows [] (j ∷ js) h = h
inputs-known old now knows (i ∷ is) [] h = h
inputs-known old now knows (i ∷ is) (j ∷ js) h = (h.0, knows i.1 j.1 h.1, inputs-known old now knows is js h.2)

pub job-known : (old now : Ref → Option (List ℕ)) → Knows old now → (t : Parts) (job : Job) → IsJob old t job → IsJob now t job
job-known old now knows t job h = record {
  function = knows t.function job.function h.function;
  inputs = inputs-known old now knows t.inputs job.inputs h.inputs;
  args = h.args;
  envs = h.envs;
  outputs = h.outputs;
}

-- a store that holds more
pub denoted-holds : (old now : Contents) → HoldsAll old now → (L : List Entry) → Knows (denoted old L) (denoted now L)
denoted-holds old now holds L (Value name) b is = holds name b is
denoted-holds old now holds L (Out name zero) b is = is
denoted-holds old now holds L (Out name (suc k)) b is = is

-- a ledger that has more
abbrev pub Extends : List Entry → List Entry → Type 0
Extends L M = (name : ObjectName) (b : List ℕ) → valued L name ≡ Some b → valued M name ≡ Some b

pub denoted-extends : (objects : Contents) (L M : List Entry) → Extends L M → Knows (denoted objects L) (denoted objects M)
denoted-extends objects L M more (Value name) b is = is
denoted-extends objects L M more (Out name zero) b is = more name b is
denoted-extends objects L M more (Out name (suc k)) b is = is

-- one more under a new name
pub extends-one : (e : Entry) (L : List Entry) → valued L e.name ≡ None → Extends L (e ∷ L)
extends-one e L fresh name b is = by (eq_by_cmp name_cmp e.name name) refl
  where
    by : (test : Bool) → eq_by_cmp name_cmp e.name name ≡ test → cond test (Some e.value) (valued L name) ≡ Some b
    by true same = absurd (none-some b (sym fresh ∙ ap (valued L) ((eq_by_cmp-name e.name name).0 same) ∙ is))
    by false differ = is

module _ (outcome : Job → Outcome) where
  pub ledger-holds : (old now : Contents) → HoldsAll old now → (L : List Entry) → IsLedger outcome old L → IsLedger outcome now L
  ledger-holds old now holds [] h = tt
  ledger-holds old now holds (e ∷ L) h = (
    record {
      there = holds e.name (text_of e.thunk) h.0.there;
      read = h.0.read;
      job = job-known (denoted old L) (denoted now L) (denoted-holds old now holds L) e.thunk e.job h.0.job;
      one = h.0.one;
      does = h.0.does;
      kind = h.0.kind;
      fresh = h.0.fresh;
    },
    ledger-holds old now holds L h.1,
  )

  -- what is known of a thunk in the whole ledger
  pub record Known (objects : Contents) (L : List Entry) (name : ObjectName) (b : List ℕ) : Type 0 where
    pub thunk : Parts
    pub job : Job
    pub there : held objects name ≡ Some (text_of thunk)
    pub read : thunk_of (text_of thunk) ≡ Some thunk
    pub is_job : IsJob (denoted objects L) thunk job
    pub does : outcome job ≡ Done (b ∷ [])

  pub known : (objects : Contents) (L : List Entry) → IsLedger outcome objects L → (name : ObjectName) (b : List ℕ) → valued L name ≡ Some b → Known objects L name b
  known objects [] h name b is = absurd (none-some b is)
  known objects (e ∷ L) h name b is = by (known objects L h.1 name b) (eq_by_cmp name_cmp e.name name) refl is
    where
      more : Knows (denoted objects L) (denoted objects (e ∷ L))
      more = denoted-extends objects L (e ∷ L) (extends-one e L h.0.fresh)

      by : (valued L name ≡ Some b → Known objects L name b) → (test : Bool) → eq_by_cmp name_cmp e.name name ≡ test → cond test (Some e.value) (valued L name) ≡ Some b → Known objects (e ∷ L) name b
      by rest true same is = record {
        thunk = e.thunk;
        job = e.job;
        there = ap (held objects) (sym ((eq_by_cmp-name e.name name).0 same)) ∙ h.0.there;
        read = h.0.read;
        is_job = job-known (denoted objects L) (denoted objects (e ∷ L)) more e.thunk e.job h.0.job;
        does = h.0.does ∙ ap (λ b. Done (b ∷ [])) (same_Some e.value b is);
      }
      by rest false differ is = let k = rest is in record {
        thunk = k.thunk;
        job = k.job;
        there = k.there;
        read = k.read;
        is_job = job-known (denoted objects L) (denoted objects (e ∷ L)) more k.thunk k.job k.is_job;
        does = k.does;
      }

  -- one thunk has one job
  same-inputs : (value : Ref → Option (List ℕ)) (inputs : List (List ℕ × Ref)) (a b : List (List ℕ × List ℕ)) → AreInputs value inputs a → AreInputs value inputs b → a ≡ b
  same-inputs value [] [] [] h k = refl
  same-inputs value [] [] (j ∷ js) h k = absurd k
  same-inputs value [] (j ∷ js) b h k = absurd h
  same-inputs value (i ∷ is) [] b h k = absurd h
  same-inputs value (i ∷ is) (x ∷ xs) [] h k = absurd k
  same-inputs value (i ∷ is) (x ∷ xs) (y ∷ ys) h k =
      let path : x.0 ≡ y.0 = sym h.0 ∙ k.0 in
      let bytes : x.1 ≡ y.1 = same_Some x.1 y.1 (sym h.1 ∙ k.1) in
      λ d. (path d, bytes d) ∷ same-inputs value is xs ys h.2 k.2 d

  same-job : (value : Ref → Option (List ℕ)) (t : Parts) (a b : Job) → IsJob value t a → IsJob value t b → a ≡ b
  same-job value t a b h k =
      let function : a.function ≡ b.function = same_Some a.function b.function (sym h.function ∙ k.function) in
      λ d. record {
        function = function d;
        args = (sym h.args ∙ k.args) d;
        envs = (sym h.envs ∙ k.envs) d;
        inputs = same-inputs value t.inputs a.inputs b.inputs h.inputs k.inputs d;
        outputs = (sym h.outputs ∙ k.outputs) d;
      }

  -- a thunk made again has the value that it had
  pub again : (objects : Contents) (L : List Entry) → IsLedger outcome objects L → (name : ObjectName) (t : Parts) (job : Job) (a b : List ℕ) →
      held objects name ≡ Some (text_of t) → thunk_of (text_of t) ≡ Some t → IsJob (denoted objects L) t job → outcome job ≡ Done (b ∷ []) → valued L name ≡ Some a → a ≡ b
  again objects L h name t job a b there read is_job does is =
      let k = known objects L h name a is in
      let text : text_of k.thunk ≡ text_of t = same_Some (text_of k.thunk) (text_of t) (sym k.there ∙ there) in
      let thunk : k.thunk ≡ t = same_Some k.thunk t (sym k.read ∙ ap thunk_of text ∙ read) in
      let job' : k.job ≡ job = same-job (denoted objects L) t k.job job (subst (λ (t : Parts). IsJob (denoted objects L) t k.job) thunk k.is_job) is_job in
      ap (first_output outcome objects) (sym k.does ∙ ap outcome job' ∙ does)
