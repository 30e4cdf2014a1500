-- A stage on both sides: the thunk that is made denotes what the tool gives.
use Rattle.std.proofs.Common.{◌≡◌, ◌≤◌, ℕ, suc, Bool, true, false, cond, List, [], ◌∷◌, ◌++◌, Option, Some, None, Ok, length, map, refl, sym, ap, subst, ◌∙◌, arith, lit<}
use Rattle.std.specs.Prelude.{option_and_then, bytes_eq}
use Rattle.std.specs.List.{AllByRecursion}
use Rattle.std.proofs.lemmas.Option.{same_Some, none-some}
use Rattle.std.proofs.lemmas.Slice.Eq.{bytes_eq-Decides}
use Rattle.object_name.specs.declared.kind.Kind.{Kind}
use Rattle.object_name.specs.declared.kind.Kind.TheVariants as kinds
use Rattle.object_name.specs.Kind.{kind_of}
use Rattle.object_name.specs.Name.{ObjectName, name_of, name_cmp, max_size}
use Rattle.object_name.proofs.PublicLaws.{is-name}
use Rattle.std.specs.Ordering.{eq_by_cmp}
use Rattle.thunk_codec.specs.declared.job.Job.{Job}
use Rattle.thunk_codec.specs.declared.reference.Ref.{Ref}
use Rattle.thunk_codec.specs.declared.reference.Ref.TheVariants.{Value, Out}
use Rattle.thunk_codec.specs.declared.job.Outcome.{Outcome}
use Rattle.thunk_codec.specs.declared.job.Outcome.TheVariants.{Done, Failed}
use Rattle.thunk_codec.specs.Card.{card_text}
use Rattle.thunk_codec.specs.Fitting.{AreFit}
use Rattle.thunk_codec.specs.Outcome.{Fits}
use Rattle.thunk_codec.specs.Reference.{IsRef}
use Rattle.thunk_codec.specs.Thunk.{Parts, IsThunk, text_of}
use Rattle.thunk_codec.specs.Reading.{thunk_of}
use Rattle.thunk_codec.proofs.PublicLaws.{text-thunk_of}
use Rattle.blob_store.specs.Store.{Contents, Store, held, other_held}
use Rattle.file_tree.specs.Files.{Files, file_read}
use Rattle.build_plan.specs.declared.gathered.Gathered.{Gathered}
use Rattle.build_plan.specs.declared.gathered.Gathered.TheVariants.{Plain, Output}
use Rattle.build_plan.specs.declared.plan.Source.{Source}
use Rattle.build_plan.specs.declared.plan.Source.TheVariants.{File, Made}
use Rattle.build_plan.specs.declared.plan.Stage.{Stage}
use Rattle.build_plan.specs.declared.plan.Step.{Step}
use Rattle.build_plan.specs.Doing.{Got, ◌>>=◌, give, go_on, unless, each}
use Rattle.build_plan.specs.Gathered.{item_of}
use Rattle.build_plan.specs.Symbolic.{Work, stored, stored_by, ref_of_item, value_ref, item_or, source_item, input_ref, parts_by, thunk_stored, thunk_made, one_output}
use Rattle.build_plan.specs.Way.{item_at}
use Rattle.build_script.specs.AtOnce.{Ran, bytes_of, source_bytes, input_bytes, job_by, no_thunk, output_of, output_by, job_run, tool_run}
use Rattle.build_law.specs.Jobs.{value_input, resolved}
use Rattle.build_law.specs.Suiting.{IsUntaken}
use Rattle.build_law.proofs.Ledger.{Entry, valued, denoted, AreInputs, IsJob, IsLedger}
use Rattle.build_law.proofs.ValuesStayHeld.{HoldsAll, Free, stores}
use Rattle.build_law.proofs.RefsEvaluate.{text-kind}
use Rattle.build_law.proofs.LedgerGrows.{ledger-holds, denoted-holds, job-known}
use Rattle.build_law.proofs.TreesRelated.{FileRel, Related, ItemRel, ItemsRel, item-at, read-rel}
use Rattle.build_law.proofs.WorkGoesOn.{got-value, got-state, got-both, stopped-got, follows, err-ok, same-ok, unless-got}

-- the thunk of a stage keeps the rules, whatever REFs its inputs are
pub record FitThunk (stage : Stage) : Type 0 where
  pub card : length (card_text stage.tool) ≤ max_size
  pub parts : AreFit stage.args [] (map (λ input. input.0) stage.inputs) one_output

-- a card is no thunk
card-kind : (tool : List ℕ) → kind_of (card_text tool) ≡ kinds.Value
card-kind tool = refl

-- ---- an object is stored

pub record Kept (w v : Work) : Type 0 where
  pub holds : HoldsAll w.store.objects v.store.objects
  pub notes : v.store.notes ≡ w.store.notes
  pub files : v.files ≡ w.files
  pub thunks : v.thunks ≡ w.thunks

pub kept-same : (w : Work) → Kept w w
kept-same w = record { holds = λ name bytes was. was; notes = refl; files = refl; thunks = refl }

pub kept-both : (w v u : Work) → Kept w v → Kept v u → Kept w u
kept-both w v u a b = record { holds = λ name bytes was. b.holds name bytes (a.holds name bytes was); notes = b.notes ∙ a.notes; files = b.files ∙ a.files; thunks = b.thunks ∙ a.thunks }

none-free : (store : Store) (bytes : List ℕ) → other_held store bytes ≡ None → Free store bytes
none-free store bytes none found is =
    by (bytes_eq found bytes) refl (sym (ap (λ o. option_and_then (λ found. cond (bytes_eq found bytes) None (Some found)) o) is) ∙ none)
  where
    by : (test : Bool) → bytes_eq found bytes ≡ test → ◌≡◌ {A = Option (List ℕ)} (cond test None (Some found)) None → found ≡ bytes
    by true t e = (bytes_eq-Decides found bytes).0 t
    by false t e = absurd (none-some found (sym e))

pub record Stored (w : Work) (bytes : List ℕ) (name : ObjectName) (v : Work) : Type 0 where
  pub named : name ≡ name_of bytes
  pub there : held v.store.objects name ≡ Some bytes
  pub kept : Kept w v

pub stored-got : (bytes : List ℕ) (w : Work) (name : ObjectName) (v : Work) → stored bytes w ≡ Got name v → Stored w bytes name v
stored-got bytes w name v is = by (other_held w.store bytes) refl is
  where
    by : (other : Option (List ℕ)) → other_held w.store bytes ≡ other → stored_by bytes other w ≡ Got name v → Stored w bytes name v
    by (Some found) o is = absurd (stopped-got _ w name v is)
    by None o is =
        let s = stores w.store bytes (none-free w.store bytes o) in
        got-both (Stored w bytes) (name_of bytes) name _ v is
        (record { named = refl; there = s.there; kept = record { holds = s.holds; notes = s.notes; files = refl; thunks = refl } })

-- ---- the inputs

record RefMade (L : List Entry) (path : List ℕ) (c : List ℕ) (w : Work) (r : List ℕ × Ref) (v : Work) : Type 0 where
  is : denoted v.store.objects L r.1 ≡ Some c
  path_is : r.0 ≡ path
  is_ref : IsRef r.1
  kept : Kept w v

ref-made : (L : List Entry) (path : List ℕ) (i : Gathered) (c : List ℕ) → ItemRel L i c → (w : Work) (r : List ℕ × Ref) (v : Work) → (ref_of_item i >>= λ ref. give (path, ref)) w ≡ Got r v → RefMade L path c w r v
ref-made L path (Output name k) c h w r v is =
    got-both (RefMade L path c w) (path, Out name k) r w v is
    (record { is = subst (λ k. denoted w.store.objects L (Out name k) ≡ Some c) (sym h.0) h.1; path_is = refl; is_ref = h.2; kept = kept-same w })
ref-made L path (Plain b) c h w r v is =
    let value : go_on (value_ref b kinds.Value w) (λ ref. give (path, ref)) ≡ Got r v = ap (λ kind. go_on (value_ref b kind w) (λ ref. give (path, ref))) (sym h.2) ∙ is in
    let a = follows (value_ref b kinds.Value w) (λ ref. give (path, ref)) r v value in
    let s = follows (stored b w) (λ name. give (Value name)) a.x a.middle a.first in
    let one = stored-got b w s.x s.middle s.first in
    got-both (RefMade L path c w) (path, a.x) r a.middle v a.last
    (got-both (λ x m. RefMade L path c w (path, x) m) (Value s.x) a.x s.middle a.middle s.last
    (record {
      is = one.there ∙ ap (λ b. Some b) h.0;
      path_is = refl;
      is_ref = subst (λ (n : ObjectName). IsRef (Value n)) (sym one.named) (is-name b h.1, h.2);
      kept = one.kept;
    }))

-- ---- the tool

module _ (outcome : Job → Outcome) (fits : (job : Job) → Fits job (outcome job)) where
  pub done-small : (job : Job) (c : List ℕ) → outcome job ≡ Done (c ∷ []) → length c ≤ max_size
  done-small job c is = let f : Fits job (Done (c ∷ [])) = subst (Fits job) is (fits job) in let most = f.1 in omega (arith, most)

  valued-kind : (objects : Contents) (L : List Entry) → IsLedger outcome objects L → (name : ObjectName) (b : List ℕ) → valued L name ≡ Some b → (kind_of b ≡ kinds.Value) × (length b ≤ max_size)
  valued-kind objects [] h name b is = absurd (none-some b is)
  valued-kind objects (e ∷ L) h name b is = by (valued-kind objects L h.1 name b) (eq_by_cmp name_cmp e.name name) is
    where
      by : (valued L name ≡ Some b → (kind_of b ≡ kinds.Value) × (length b ≤ max_size)) → (test : Bool) → cond test (Some e.value) (valued L name) ≡ Some b → (kind_of b ≡ kinds.Value) × (length b ≤ max_size)
      by rest true is = subst (λ (b : List ℕ). (kind_of b ≡ kinds.Value) × (length b ≤ max_size)) (same_Some e.value b is) (h.0.kind, done-small e.job e.value h.0.does)
      by rest false is = rest is

  item-value : (objects : Contents) (L : List Entry) → IsLedger outcome objects L → (i : Gathered) (c : List ℕ) → ItemRel L i c → IsRef (Value (name_of c))
  item-value objects L h (Plain b) c rel = subst (λ (b : List ℕ). IsRef (Value (name_of b))) rel.0 (is-name b rel.1, rel.2)
  item-value objects L h (Output name k) c rel = let v = valued-kind objects L h name c rel.1 in (is-name c v.1, v.0)

  pub record RefsMade (L : List Entry) (sources : List (List ℕ × Source)) (w : Work) (r : Ran) (refs : List (List ℕ × Ref)) (v : Work) (inputs : List (List ℕ × List ℕ)) (q : Ran) : Type 0 where
    pub inputs_are : AreInputs (denoted v.store.objects L) refs inputs
    pub paths : map (λ i. i.0) refs ≡ map (λ i. i.0) sources
    pub are_refs : AllByRecursion IsRef (map (λ i. i.1) refs)
    pub value_paths : map (λ i. i.0) (map value_input inputs) ≡ map (λ i. i.0) sources
    pub are_values : AllByRecursion IsRef (map (λ i. i.1) (map value_input inputs))
    pub kept : Kept w v
    pub same : r ≡ q

  module _ (L : List Entry) (steps later : List Step) (is : List Gathered) (cs : List (List ℕ)) (rel : ItemsRel L steps is cs) where
    record Sourced (w : Work) (r : Ran) (i : Gathered) (m : Work) (c : List ℕ) (n : Ran) : Type 0 where
      item : ItemRel L i c
      work : w ≡ m
      ran : r ≡ n

    sourced : (source : Source) → IsUntaken (steps ++ later) source → (w : Work) (r : Ran) → Related L w.files r.files → (i : Gathered) (m : Work) (c : List ℕ) (n : Ran) → source_item is source w ≡ Got i m → source_bytes cs source r ≡ Got c n → Sourced w r i m c n
    sourced (File path) untaken w r files i m c n si oi =
        let a = unless-got (item_or (item_of path (file_read (w.files path)))) w i m si in
        let b = unless-got (bytes_of path (file_read (r.files path))) r c n oi in
        record { item = read-rel L path (w.files path) (r.files path) i c (files path) a.0 b.0; work = a.1; ran = b.1 }
    sourced (Made place) untaken w r files i m c n si oi = record {
      item = subst (λ (i : Gathered). ItemRel L i c) (got-value _ i w m si) (subst (λ (c : List ℕ). ItemRel L (item_at (Plain []) is place) c) (got-value _ c r n oi) (item-at L steps later is cs place rel untaken));
      work = got-state _ i w m si;
      ran = got-state _ c r n oi;
    }

    pub refs-made : (sources : List (List ℕ × Source)) → AllByRecursion (λ input. IsUntaken (steps ++ later) input.1) sources → (w : Work) (r : Ran) → IsLedger outcome w.store.objects L → Related L w.files r.files → (refs : List (List ℕ × Ref)) (v : Work) (inputs : List (List ℕ × List ℕ)) (q : Ran) →
        each (input_ref is) sources w ≡ Got refs v → each (input_bytes cs) sources r ≡ Got inputs q → RefsMade L sources w r refs v inputs q
    refs-made [] untaken w r ledger files refs v inputs q si oi =
        got-both (λ refs v. RefsMade L [] w r refs v inputs q) [] refs w v si (got-both (λ inputs q. RefsMade L [] w r [] w inputs q) [] inputs r q oi
        (record { inputs_are = tt; paths = refl; are_refs = tt; value_paths = refl; are_values = tt; kept = kept-same w; same = refl }))
    refs-made (source ∷ sources) untaken w r ledger files refs v inputs q si oi =
        let a = follows (input_ref is source w) (λ y. each (input_ref is) sources >>= λ ys. give (y ∷ ys)) refs v si in
        let b = follows (input_bytes cs source r) (λ y. each (input_bytes cs) sources >>= λ ys. give (y ∷ ys)) inputs q oi in
        let s = follows (source_item is source.1 w) (λ item. ref_of_item item >>= λ ref. give (source.0, ref)) a.x a.middle a.first in
        let o = follows (source_bytes cs source.1 r) (λ bytes. give (source.0, bytes)) b.x b.middle b.first in
        let from = sourced source.1 untaken.0 w r files s.x s.middle o.x o.middle s.first o.first in
        let one = ref-made L source.0 s.x o.x from.item w a.x a.middle (ap (ref_of_item s.x >>= λ ref. give (source.0, ref)) from.work ∙ s.last) in
        let read : (source.0, o.x) ≡ b.x = got-value (source.0, o.x) b.x o.middle b.middle o.last in
        let still : r ≡ b.middle = from.ran ∙ got-state (source.0, o.x) b.x o.middle b.middle o.last in
        let c = follows (each (input_ref is) sources a.middle) (λ ys. give (a.x ∷ ys)) refs v a.last in
        let d = follows (each (input_bytes cs) sources b.middle) (λ ys. give (b.x ∷ ys)) inputs q b.last in
        let later : Related L a.middle.files b.middle.files = λ path. subst (λ (f : Files). FileRel L (f path) (b.middle.files path)) (sym one.kept.files) (subst (λ (r : Ran). FileRel L (w.files path) (r.files path)) still (files path)) in
        let rest = refs-made sources untaken.1 a.middle b.middle (ledger-holds outcome w.store.objects a.middle.store.objects one.kept.holds L ledger) later c.x c.middle d.x d.middle c.first d.first in
        let value : IsRef (Value (name_of o.x)) = item-value w.store.objects L ledger s.x o.x from.item in
        got-both (λ refs v. RefsMade L (source ∷ sources) w r refs v inputs q) (a.x ∷ c.x) refs c.middle v c.last
        (got-both (λ inputs q. RefsMade L (source ∷ sources) w r (a.x ∷ c.x) c.middle inputs q) (b.x ∷ d.x) inputs d.middle q d.last
        (subst (λ (x : List ℕ × List ℕ). RefsMade L (source ∷ sources) w r (a.x ∷ c.x) c.middle (x ∷ d.x) d.middle) read
        (record {
          inputs_are = (one.path_is, denoted-holds a.middle.store.objects c.middle.store.objects rest.kept.holds L a.x.1 o.x one.is, rest.inputs_are);
          paths = λ e. one.path_is e ∷ rest.paths e;
          are_refs = (one.is_ref, rest.are_refs);
          value_paths = λ e. source.0 ∷ rest.value_paths e;
          are_values = (value, rest.are_values);
          kept = kept-both w a.middle c.middle one.kept rest.kept;
          same = still ∙ rest.same;
        })))

  -- ---- a stage

  pub record StageDone (L : List Entry) (w : Work) (r : Ran) (i : Gathered) (v : Work) (c : List ℕ) (q : Ran) : Type 0 where
    pub thunk : Parts
    pub name : ObjectName
    pub job_is : Job
    pub one : job_is.outputs ≡ one_output
    pub item : i ≡ Output name 0
    pub there : held v.store.objects name ≡ Some (text_of thunk)
    pub read : thunk_of (text_of thunk) ≡ Some thunk
    pub job : IsJob (denoted v.store.objects L) thunk job_is
    pub is_ref : IsRef (Out name 0)
    pub rules : IsThunk (resolved job_is)
    pub holds : HoldsAll w.store.objects v.store.objects
    pub notes : v.store.notes ≡ w.store.notes
    pub files : v.files ≡ w.files
    pub thunks : v.thunks ≡ suc w.thunks
    pub does : outcome job_is ≡ Done (c ∷ [])
    pub kind : kind_of c ≡ kinds.Value
    pub ran_files : q.files ≡ r.files
    pub jobs : q.jobs ≡ r.jobs ++ job_is ∷ []

  record ToolRan (stage : Stage) (inputs : List (List ℕ × List ℕ)) (r : Ran) (c : List ℕ) (q : Ran) : Type 0 where
    does : outcome (job_by stage inputs) ≡ Done (c ∷ [])
    kind : kind_of c ≡ kinds.Value
    files : q.files ≡ r.files
    jobs : q.jobs ≡ r.jobs ++ job_by stage inputs ∷ []

  tool-ran : (stage : Stage) (inputs : List (List ℕ × List ℕ)) (r : Ran) (c : List ℕ) (q : Ran) →
      (job_run (job_by stage inputs) >>= λ _. unless (output_by stage.target (outcome (job_by stage inputs)))) r ≡ Got c q → ToolRan stage inputs r c q
  tool-ran stage inputs r c q is =
      let next : Ran = record r { jobs = r.jobs ++ job_by stage inputs ∷ [] } in
      let u = unless-got (output_by stage.target (outcome (job_by stage inputs))) next c q is in
      by next u.1 refl refl (outcome (job_by stage inputs)) refl u.0
    where
      by_kind : (b : List ℕ) (kind : Kind) → kind_of b ≡ kind → no_thunk stage.target b kind ≡ Ok c → (b ≡ c) × (kind_of b ≡ kinds.Value)
      by_kind b kinds.Value k is = (same-ok b c is, k)
      by_kind b kinds.Thunk k is = absurd (err-ok _ c is)

      by_outputs : (outputs : List (List ℕ)) → output_of stage.target outputs ≡ Ok c → (outputs ≡ c ∷ []) × (kind_of c ≡ kinds.Value)
      by_outputs [] is = absurd (err-ok _ c is)
      by_outputs (b ∷ o ∷ more) is = absurd (err-ok _ c is)
      by_outputs (b ∷ []) is = let k = by_kind b (kind_of b) refl is in (ap (λ b. b ∷ []) k.0, subst (λ (b : List ℕ). kind_of b ≡ kinds.Value) k.0 k.1)

      by : (next : Ran) → next ≡ q → next.files ≡ r.files → next.jobs ≡ r.jobs ++ job_by stage inputs ∷ [] → (o : Outcome) → outcome (job_by stage inputs) ≡ o → output_by stage.target o ≡ Ok c → ToolRan stage inputs r c q
      by next same files jobs (Failed status) o is = absurd (err-ok _ c is)
      by next same files jobs (Done outputs) o is =
          let k = by_outputs outputs is in
          record { does = o ∙ ap (λ outputs. Done outputs) k.0; kind = k.1; files = ap (λ (q : Ran). q.files) (sym same) ∙ files; jobs = ap (λ (q : Ran). q.jobs) (sym same) ∙ jobs }

  pub stage-done : (L : List Entry) (steps later : List Step) (is : List Gathered) (cs : List (List ℕ)) → ItemsRel L steps is cs → (stage : Stage) → AllByRecursion (λ input. IsUntaken (steps ++ later) input.1) stage.inputs → FitThunk stage → (w : Work) (r : Ran) → IsLedger outcome w.store.objects L → Related L w.files r.files →
      (i : Gathered) (v : Work) (c : List ℕ) (q : Ran) → thunk_made is stage w ≡ Got i v → tool_run outcome cs stage r ≡ Got c q → StageDone L w r i v c q
  stage-done L steps later is cs rel stage untaken fit w r ledger files i v c q si oi =
      let a = follows (stored (card_text stage.tool) w) (λ card. each (input_ref is) stage.inputs >>= λ refs. thunk_stored (parts_by stage (Value card) refs) >>= λ name. give (Output name 0)) i v si in
      let b = follows (each (input_ref is) stage.inputs a.middle) (λ refs. thunk_stored (parts_by stage (Value a.x) refs) >>= λ name. give (Output name 0)) i v a.last in
      let t = parts_by stage (Value a.x) b.x in
      let d = follows (thunk_stored t b.middle) (λ name. give (Output name 0)) i v b.last in
      let e = follows (stored (text_of t) b.middle) (λ name s. Got name (record s { thunks = suc s.thunks })) d.x d.middle d.first in
      let o = follows (each (input_bytes cs) stage.inputs r) (λ inputs. job_run (job_by stage inputs) >>= λ _. unless (output_by stage.target (outcome (job_by stage inputs)))) c q oi in
      let card = stored-got (card_text stage.tool) w a.x a.middle a.first in
      let first_files : Related L a.middle.files r.files = λ path. subst (λ (f : Files). FileRel L (f path) (r.files path)) (sym card.kept.files) (files path) in
      let refs = refs-made L steps later is cs rel stage.inputs untaken a.middle r (ledger-holds outcome w.store.objects a.middle.store.objects card.kept.holds L ledger) first_files b.x b.middle o.x o.middle b.first o.first in
      let text = stored-got (text_of t) b.middle e.x e.middle e.first in
      let ran = tool-ran stage o.x o.middle c q o.last in
      let card_ref : IsRef (Value a.x) = subst (λ (n : ObjectName). IsRef (Value n)) (sym card.named) (is-name (card_text stage.tool) fit.card, card-kind stage.tool) in
      let rules : IsThunk t = fit.parts (Value a.x) b.x refs.paths card_ref refs.are_refs in
      got-both (λ i v. StageDone L w r i v c q) (Output d.x 0) i d.middle v d.last
      (got-both (λ name v. StageDone L w r (Output name 0) v c q) e.x d.x (record e.middle { thunks = suc e.middle.thunks }) d.middle e.last
      (record {
        thunk = t;
        name = e.x;
        job_is = job_by stage o.x;
        one = refl;
        item = refl;
        there = text.there;
        read = text-thunk_of (text_of t) t (record { rules = rules; text = refl });
        job = job-known (denoted b.middle.store.objects L) (denoted e.middle.store.objects L) (denoted-holds b.middle.store.objects e.middle.store.objects text.kept.holds L) t (job_by stage o.x) (record {
          function = refs.kept.holds a.x (card_text stage.tool) card.there;
          inputs = refs.inputs_are;
          args = refl;
          envs = refl;
          outputs = refl;
        });
        is_ref = subst (λ (n : ObjectName). IsRef (Out n 0)) (sym text.named) (is-name (text_of t) rules.size, text-kind t, lit< tt);
        rules = fit.parts (Value (name_of (card_text stage.tool))) (map value_input o.x) refs.value_paths (is-name (card_text stage.tool) fit.card, card-kind stage.tool) refs.are_values;
        holds = λ name bytes was. text.kept.holds name bytes (refs.kept.holds name bytes (card.kept.holds name bytes was));
        notes = text.kept.notes ∙ refs.kept.notes ∙ card.kept.notes;
        files = text.kept.files ∙ refs.kept.files ∙ card.kept.files;
        thunks = ap suc (text.kept.thunks ∙ refs.kept.thunks ∙ card.kept.thunks);
        does = ran.does;
        kind = ran.kind;
        ran_files = ran.files ∙ ap (λ (r : Ran). r.files) (sym refs.same);
        jobs = ran.jobs ∙ ap (λ (r : Ran). r.jobs ++ job_by stage o.x ∷ []) (sym refs.same);
      }))
