-- Plans on both sides: the trees stay related.
use Rattle.std.proofs.Common.{◌≡◌, map, ◌≤◌, inl, inr, ℕ, Bool, true, false, cond, List, [], ◌∷◌, ◌++◌, Option, Some, None, Ok, Err, length, refl, sym, ap, subst, ◌∙◌, arith, append-nil, append_assoc}
use Rattle.std.specs.Prelude.{bytes_eq, is_some, nat_le, unwrap_or}
use Rattle.std.specs.List.{AllByRecursion, list_all}
use Rattle.std.proofs.lemmas.Bool.{and_from}
use Rattle.std.proofs.lemmas.Option.{none-some}
use Rattle.object_name.specs.Name.{ObjectName, max_size}
use Rattle.object_name.proofs.PublicLaws.{name_cmp-same}
use Rattle.thunk_codec.specs.declared.job.Job.{Job}
use Rattle.thunk_codec.specs.declared.job.Outcome.{Outcome}
use Rattle.thunk_codec.specs.Fitting.{AreFit}
use Rattle.thunk_codec.specs.Outcome.{Fits}
use Rattle.thunk_codec.specs.Path.{is_path}
use Rattle.thunk_codec.specs.Placeholder.{placeholder_of}
use Rattle.thunk_codec.specs.Thunk.{IsThunk, is_strictly_increasing}
use Rattle.file_tree.specs.Files.{Files, after_change, file_read, put_file, without_file}
use Rattle.file_tree.specs.declared.change.Change.{Change}
use Rattle.file_tree.specs.declared.change.Change.TheVariants.{Written, Removed}
use Rattle.file_tree.specs.declared.refusal.FileRefusal.TheVariants as refusals
use Rattle.file_tree.specs.declared.tree.FileRead.TheVariants as reads
use Rattle.include_scan.specs.Scanned.{bytes_at, inputs_of}
use Rattle.include_scan.specs.Scanning.{Visiting, max_files, refusal_of, refusal_of_read, scanned_paths}
use Rattle.include_scan.specs.declared.fault.ScanFault.TheVariants as scans
use Rattle.build_plan.specs.declared.gathered.Gathered.{Gathered as Item}
use Rattle.build_plan.specs.declared.gathered.Gathered.TheVariants.{Plain}
use Rattle.build_plan.specs.declared.plan.Plan.{Plan}
use Rattle.build_plan.specs.declared.plan.Scanning.{Scanning}
use Rattle.build_plan.specs.declared.plan.Source.{Source}
use Rattle.build_plan.specs.declared.plan.Source.TheVariants as sources
use Rattle.build_plan.specs.declared.plan.Stage.{Stage}
use Rattle.build_plan.specs.declared.plan.Step.{Step}
use Rattle.build_plan.specs.declared.plan.Step.TheVariants.{Read, Take, Find, Run, Scan}
use Rattle.build_plan.specs.declared.plan.Target.{Target}
use Rattle.build_plan.specs.declared.plan.Target.TheVariants.{Keep, Drop}
use Rattle.build_plan.specs.Doing.{Got, ◌>>=◌, go_on, give, unless, each}
use Rattle.build_plan.specs.Fitting.{IsFitScanning, IsFitStep}
use Rattle.build_plan.specs.Gathered.{item_of}
use Rattle.build_plan.specs.Symbolic.{Work, symbolic, item_or, read_item, thunk_made, one_output}
use Rattle.build_plan.specs.Way.{bytes_or, change_of, completed, done, file_input, first_found, found_or, gathered, optional_input, scanned_or, scanned_stage, taken}
use Rattle.build_script.specs.AtOnce.{Ran, at_once, bytes_of, input_bytes, job_by, job_run, output_by, plain_bytes, read_bytes, scanned_run, tool_run}
use Rattle.build_script.specs.Builds.{built}
use Rattle.build_law.specs.Jobs.{IsRun, resolved}
use Rattle.build_law.specs.Suiting.{is_take, IsUntaken, GivesUntaken, SeesEnough, ScansEnough, Suits}
use Rattle.build_law.proofs.Ledger.{Entry, valued, IsLedger, Among}
use Rattle.build_law.proofs.LedgerGrows.{Extends, extends-one, ledger-holds, again}
use Rattle.build_script.proofs.ScannedAlike.{scanned-like}
use Rattle.build_law.proofs.StageMakesThunk.{FitThunk, StageDone, stage-done}
use Rattle.build_law.proofs.TreesRelated.{FileRel, Related, file-extends, file-like, ItemRel, GatheredRel, ItemsRel, items-extend, items-one, file-at, read-rel, take-rel, found-same, completed-same}
use Rattle.build_law.proofs.WorkGoesOn.{got-state, got-both, follows, err-ok, same-ok, unless-got}

among-more : (job : Job) (jobs others : List Job) → IsRun job jobs → IsRun job (jobs ++ others)
among-more job [] others h = absurd h
among-more job (x ∷ jobs) others (inl h) = inl h
among-more job (x ∷ jobs) others (inr h) = inr (among-more job jobs others h)

among-last : (job : Job) (jobs : List Job) → IsRun job (jobs ++ job ∷ [])
among-last job [] = inl refl
among-last job (x ∷ jobs) = inr (among-last job jobs)

-- a file that isn't refused is read
is-read : (path : List ℕ) (x : Option (List ℕ)) → refusal_of path x ≡ None → bytes_of path (file_read x) ≡ Ok (unwrap_or x [])
is-read path None is = absurd (none-some _ (sym is))
is-read path (Some bytes) is = by_size (nat_le (length bytes) max_size) is
  where
    by_found : (found : Option (ObjectName × ℕ)) → placeholder_of bytes ≡ found → cond (is_some found) (Some (refusals.Generated path)) None ≡ None → bytes_of path (reads.Bytes bytes) ≡ Ok bytes
    by_found None p e = ap (plain_bytes path bytes) p
    by_found (Some output) p e = absurd (none-some _ (sym e))

    by_size : (test : Bool) → refusal_of_read path (cond test (reads.Bytes bytes) reads.TooLong) ≡ None → bytes_of path (cond test (reads.Bytes bytes) reads.TooLong) ≡ Ok bytes
    by_size true e = by_found (placeholder_of bytes) refl e
    by_size false e = absurd (none-some _ (sym e))

-- none of the scanned files is refused in the other tree
none-refused : (f g : Files) (paths : List (List ℕ)) → AllByRecursion (λ path. (f path ≡ g path) × (refusal_of path (f path) ≡ None) × (is_path path ≡ true)) paths → AllByRecursion (λ path. refusal_of path (g path) ≡ None) paths
none-refused f g [] h = tt
none-refused f g (path ∷ paths) h = (subst (λ (file : Option (List ℕ)). refusal_of path file ≡ None) h.0.0 h.0.1, none-refused f g paths h.1)

normal-paths : (f g : Files) (paths : List (List ℕ)) → AllByRecursion (λ path. (f path ≡ g path) × (refusal_of path (f path) ≡ None) × (is_path path ≡ true)) paths → list_all is_path paths ≡ true
normal-paths f g [] h = refl
normal-paths f g (path ∷ paths) h = and_from _ _ h.0.2 (normal-paths f g paths h.1)

scanned-ok : (visiting : Visiting) (paths : List (List ℕ)) → scanned_or visiting ≡ Ok paths → visiting ≡ Ok paths
scanned-ok (Ok visited) paths is = ap (λ visited. Ok visited) (same-ok visited paths is)
scanned-ok (Err (scans.Refused refusal)) paths is = absurd (err-ok _ paths is)
scanned-ok (Err scans.TooMany) paths is = absurd (err-ok _ paths is)
scanned-ok (Err scans.Failed) paths is = absurd (err-ok _ paths is)
scanned-ok (Err scans.Memory) paths is = absurd (err-ok _ paths is)

-- ---- inputs that no step takes

files-untaken : (paths : List (List ℕ)) → AllByRecursion (λ input. IsUntaken [] input.1) (map file_input paths)
files-untaken [] = tt
files-untaken (path ∷ paths) = (tt, files-untaken paths)

optional-untaken : (steps : List Step) (files : Files) (optional : Option (List ℕ × List ℕ)) → AllByRecursion (λ input. IsUntaken steps input.1) (optional_input files optional)
optional-untaken steps files None = tt
optional-untaken steps files (Some input) = by (is_some (files input.1))
  where
    by : (test : Bool) → AllByRecursion (λ (i : List ℕ × Source). IsUntaken steps i.1) (cond test ((input.0, sources.File input.1) ∷ []) [])
    by true = (tt, tt)
    by false = tt

untaken-both : (steps : List Step) (a b : List (List ℕ × Source)) → AllByRecursion (λ input. IsUntaken steps input.1) a → AllByRecursion (λ input. IsUntaken steps input.1) b → AllByRecursion (λ input. IsUntaken steps input.1) (a ++ b)
untaken-both steps [] b h k = k
untaken-both steps (x ∷ a) b h k = (h.0, untaken-both steps a b h.1 k)

-- ---- the thunk of a scanned source fits

names-of : (paths : List (List ℕ)) → map (λ (i : List ℕ × Source). i.0) (map file_input paths) ≡ paths
names-of [] = refl
names-of (path ∷ paths) = ap (λ ps. path ∷ ps) (names-of paths)

fit-scanned : (s : Scanning) → IsFitScanning s → (paths : List (List ℕ)) → list_all is_path paths ≡ true → is_strictly_increasing paths ≡ true → length paths ≤ max_files → FitThunk (scanned_stage s paths)
fit-scanned s fit paths normal rising few = record {
  card = fit.card;
  parts = subst (λ (names : List (List ℕ)). AreFit s.args [] names one_output) (sym (names-of paths)) (fit.parts paths normal rising few);
}

module _ (outcome : Job → Outcome) (fits : (job : Job) → Fits job (outcome job)) (whole : Files → Scanning → Outcome) where
  -- the two sides of a build, by the thunks that were made
  pub record Agree (w : Work) (r : Ran) (L : List Entry) : Type 0 where
    pub ledger : IsLedger outcome w.store.objects L
    pub files : Related L w.files r.files
    pub jobs : (e : Entry) → Among e L → IsRun e.job r.jobs
    pub rules : (e : Entry) → Among e L → IsThunk (resolved e.job)
    pub few : length L ≤ w.thunks

  pub record Next (w : Work) (r : Ran) (L : List Entry) (v : Work) (q : Ran) : Type 0 where
    pub more : List Entry
    pub extends : Extends L more
    pub agree : Agree v q more
    pub notes : v.store.notes ≡ w.store.notes

  abbrev next-both : (w v u : Work) (r q p : Ran) (L : List Entry) (a : Next w r L v q) → Next v q a.more u p → Next w r L u p
  next-both w v u r q p L a b = record { more = b.more; extends = λ name x is. b.extends name x (a.extends name x is); agree = b.agree; notes = b.notes ∙ a.notes }

  abbrev next-same : (w : Work) (r : Ran) (L : List Entry) → Agree w r L → Next w r L w r
  next-same w r L agree = record { more = L; extends = λ name x is. is; agree = agree; notes = refl }

  -- ---- one step of a plan

  pub record Took (w : Work) (r : Ran) (L : List Entry) (as_is : Bool) (i : Item) (v : Work) (c : List ℕ) (q : Ran) : Type 0 where
    pub next : Next w r L v q
    pub item : GatheredRel next.more as_is i c

  -- the scanned files are read
  all-read : (r : Ran) (paths : List (List ℕ)) → AllByRecursion (λ path. refusal_of path (r.files path) ≡ None) paths → each (input_bytes []) (map file_input paths) r ≡ Got (inputs_of r.files paths) r
  all-read r [] h = refl
  all-read r (path ∷ paths) h =
      ap (λ found. go_on (go_on (unless found r) (λ bytes. give (path, bytes))) (λ y. each (input_bytes []) (map file_input paths) >>= λ ys. give (y ∷ ys))) (is-read path (r.files path) h.0)
      ∙ ap (λ m. go_on m (λ ys. give ((path, bytes_at r.files path) ∷ ys))) (all-read r paths h.1)

  module _ (w : Work) (r : Ran) (L : List Entry) (agree : Agree w r L) where
    took-read : (path : List ℕ) (i : Item) (v : Work) (c : List ℕ) (q : Ran) → read_item path w ≡ Got i v → read_bytes path r ≡ Got c q → Took w r L false i v c q
    took-read path i v c q si oi =
        let a = unless-got (item_or (item_of path (file_read (w.files path)))) w i v si in
        let b = unless-got (bytes_of path (file_read (r.files path))) r c q oi in
        subst (λ (v : Work). Took w r L false i v c q) a.1 (subst (λ (q : Ran). Took w r L false i w c q) b.1
        (record { next = next-same w r L agree; item = read-rel L path (w.files path) (r.files path) i c (agree.files path) a.0 b.0 }))

    -- the bytes of a file as they are
    took-bytes : (path : List ℕ) (i : Item) (v : Work) (c : List ℕ) (q : Ran) →
        go_on (unless (bytes_or path (file_read (w.files path))) w) (λ bytes. give (Plain bytes)) ≡ Got i v → go_on (unless (bytes_or path (file_read (r.files path))) r) give ≡ Got c q → Took w r L true i v c q
    took-bytes path i v c q si oi =
        let a = follows (unless (bytes_or path (file_read (w.files path))) w) (λ bytes. give (Plain bytes)) i v si in
        let b = follows (unless (bytes_or path (file_read (r.files path))) r) give c q oi in
        let ua = unless-got (bytes_or path (file_read (w.files path))) w a.x a.middle a.first in
        let ub = unless-got (bytes_or path (file_read (r.files path))) r b.x b.middle b.first in
        got-both (λ i v. Took w r L true i v c q) (Plain a.x) i w v (ap (λ w. Got (Plain a.x) w) ua.1 ∙ a.last)
        (got-both (λ c q. Took w r L true (Plain a.x) w c q) b.x c r q (ap (λ r. Got b.x r) ub.1 ∙ b.last)
        (record { next = next-same w r L agree; item = take-rel L path (w.files path) (r.files path) a.x b.x (agree.files path) ua.0 ub.0 }))

    -- the first file that is there
    took-found : (missing : List ℕ) (places : List (List ℕ)) (i : Item) (v : Work) (c : List ℕ) (q : Ran) →
        go_on (unless (found_or missing (first_found w.files places)) w) read_item ≡ Got i v → go_on (unless (found_or missing (first_found r.files places)) r) read_bytes ≡ Got c q → Took w r L false i v c q
    took-found missing places i v c q si oi =
        let a = follows (unless (found_or missing (first_found w.files places)) w) read_item i v si in
        let b = follows (unless (found_or missing (first_found r.files places)) r) read_bytes c q oi in
        let ua = unless-got (found_or missing (first_found w.files places)) w a.x a.middle a.first in
        let ub = unless-got (found_or missing (first_found r.files places)) r b.x b.middle b.first in
        let same : a.x ≡ b.x = same-ok a.x b.x (sym ua.0 ∙ ap (found_or missing) (found-same L w.files r.files agree.files places) ∙ ub.0) in
        took-read a.x i v c q (ap (read_item a.x) ua.1 ∙ a.last) (ap (λ path. read_bytes path r) same ∙ ap (read_bytes b.x) ub.1 ∙ b.last)

    took-done : (i : Item) (v : Work) (c : List ℕ) (q : Ran) (m : StageDone outcome fits L w r i v c q) → IsLedger outcome v.store.objects L → (known : Option (List ℕ)) → valued L m.name ≡ known → Took w r L false i v c q
    took-done i v c q m held (Some a) known =
        let same : a ≡ c = again outcome v.store.objects L held m.name m.thunk m.job_is a c m.there m.read m.job m.does known in
        record {
          next = record {
            more = L;
            extends = λ name x is. is;
            notes = m.notes;
            agree = record {
              ledger = held;
              files = λ path. subst (λ (f : Files). FileRel L (f path) (q.files path)) (sym m.files) (subst (λ (f : Files). FileRel L (w.files path) (f path)) (sym m.ran_files) (agree.files path));
              jobs = λ e among. subst (IsRun e.job) (sym m.jobs) (among-more e.job r.jobs (m.job_is ∷ []) (agree.jobs e among));
              rules = agree.rules;
              few = let one = agree.few in let more = m.thunks in omega (arith, one, more);
            };
          };
          item = subst (λ (i : Item). ItemRel L i c) (sym m.item) (refl, known ∙ ap (λ b. Some b) same, m.is_ref);
        }
    took-done i v c q m held None known =
        let e : Entry = record { name = m.name; thunk = m.thunk; job = m.job_is; value = c } in
        let own : valued (e ∷ L) m.name ≡ Some c = ap (λ test. cond test (Some c) (valued L m.name)) (name_cmp-same m.name) in
        record {
          next = record {
            more = e ∷ L;
            extends = extends-one e L known;
            notes = m.notes;
            agree = record {
              ledger = (record { there = m.there; read = m.read; job = m.job; one = m.one; does = m.does; kind = m.kind; fresh = known }, held);
              files = λ path. file-extends L (e ∷ L) (extends-one e L known) (v.files path) (q.files path)
                  (subst (λ (f : Files). FileRel L (f path) (q.files path)) (sym m.files) (subst (λ (f : Files). FileRel L (w.files path) (f path)) (sym m.ran_files) (agree.files path)));
              jobs = jobs_by e refl;
              rules = rules_by e refl;
              few = let one = agree.few in let more = m.thunks in omega (arith, one, more);
            };
          };
          item = subst (λ (i : Item). ItemRel (e ∷ L) i c) (sym m.item) (refl, own, m.is_ref);
        }
      where
        jobs_by : (e : Entry) → e.job ≡ m.job_is → (x : Entry) → Among x (e ∷ L) → IsRun x.job q.jobs
        jobs_by e own x (inl same) = subst (IsRun x.job) (sym m.jobs) (subst (λ (j : Job). IsRun j (r.jobs ++ m.job_is ∷ [])) (sym own ∙ ap (λ (e : Entry). e.job) same) (among-last m.job_is r.jobs))
        jobs_by e own x (inr among) = subst (IsRun x.job) (sym m.jobs) (among-more x.job r.jobs (m.job_is ∷ []) (agree.jobs x among))

        rules_by : (e : Entry) → e.job ≡ m.job_is → (x : Entry) → Among x (e ∷ L) → IsThunk (resolved x.job)
        rules_by e own x (inl same) = subst (λ (j : Job). IsThunk (resolved j)) (sym own ∙ ap (λ (e : Entry). e.job) same) m.rules
        rules_by e own x (inr among) = agree.rules x among

    took-run : (steps later : List Step) (is : List Item) (cs : List (List ℕ)) → ItemsRel L steps is cs → (stage : Stage) → AllByRecursion (λ input. IsUntaken (steps ++ later) input.1) stage.inputs → FitThunk stage →
        (i : Item) (v : Work) (c : List ℕ) (q : Ran) → thunk_made is stage w ≡ Got i v → tool_run outcome cs stage r ≡ Got c q → Took w r L false i v c q
    took-run steps later is cs rel stage untaken fit i v c q si oi =
        let m = stage-done outcome fits L steps later is cs rel stage untaken fit w r agree.ledger agree.files i v c q si oi in
        took-done i v c q m (ledger-holds outcome w.store.objects v.store.objects m.holds L agree.ledger) (valued L m.name) refl

    took-scan : (s : Scanning) → IsFitScanning s → SeesEnough outcome whole s → (i : Item) (v : Work) (c : List ℕ) (q : Ran) →
        go_on (unless (scanned_or (scanned_paths w.files s.folders s.source)) w) (λ paths. thunk_made [] (scanned_stage s paths)) ≡ Got i v →
        go_on (unless (scanned_or (scanned_paths r.files s.folders s.source)) r) (scanned_run outcome whole s) ≡ Got c q → Took w r L false i v c q
    took-scan s fit enough i v c q si oi =
        let a = follows (unless (scanned_or (scanned_paths w.files s.folders s.source)) w) (λ paths. thunk_made [] (scanned_stage s paths)) i v si in
        let b = follows (unless (scanned_or (scanned_paths r.files s.folders s.source)) r) (scanned_run outcome whole s) c q oi in
        let ua = unless-got (scanned_or (scanned_paths w.files s.folders s.source)) w a.x a.middle a.first in
        let ub = unless-got (scanned_or (scanned_paths r.files s.folders s.source)) r b.x b.middle b.first in
        let in_once : scanned_paths r.files s.folders s.source ≡ Ok b.x = scanned-ok (scanned_paths r.files s.folders s.source) b.x ub.0 in
        let known = scanned-like w.files r.files (λ path. file-like L (w.files path) (r.files path) (agree.files path)) s.folders s.source a.x enough.source
        (scanned-ok (scanned_paths w.files s.folders s.source) a.x ua.0) in
        let same : a.x ≡ b.x = same-ok a.x b.x (sym known.same ∙ in_once) in
        let read : AllByRecursion (λ path. refusal_of path (r.files path) ≡ None) a.x = none-refused w.files r.files a.x known.plain in
        took-run [] [] [] [] tt (scanned_stage s a.x) (files-untaken a.x) (fit-scanned s fit a.x (normal-paths w.files r.files a.x known.plain) known.order.rising known.few) i v c q
        (ap (thunk_made [] (scanned_stage s a.x)) ua.1 ∙ a.last)
        (ap (λ m. go_on m (λ inputs. job_run (job_by (scanned_stage s a.x) inputs) >>= λ _. unless (output_by s.target (outcome (job_by (scanned_stage s a.x) inputs))))) (all-read r a.x read)
        ∙ ap (λ o. (job_run (job_by (scanned_stage s a.x) (inputs_of r.files a.x)) >>= λ _. unless (output_by s.target o)) r) (sym (enough.same r.files a.x known.same))
        ∙ ap (λ paths. scanned_run outcome whole s paths r) same
        ∙ ap (scanned_run outcome whole s b.x) ub.1 ∙ b.last)

    took : (steps later : List Step) (is : List Item) (cs : List (List ℕ)) → ItemsRel L steps is cs → (step : Step) → IsFitStep step → GivesUntaken (steps ++ later) step → ScansEnough outcome whole step →
        (i : Item) (v : Work) (c : List ℕ) (q : Ran) → taken symbolic is step w ≡ Got i v → taken (at_once outcome whole) cs step r ≡ Got c q → Took w r L (is_take (Some step)) i v c q
    took steps later is cs rel (Read path) fit untaken enough i v c q si oi = took-read path i v c q si oi
    took steps later is cs rel (Take path) fit untaken enough i v c q si oi = took-bytes path i v c q si oi
    took steps later is cs rel (Find missing places) fit untaken enough i v c q si oi = took-found missing places i v c q si oi
    took steps later is cs rel (Run stage) fit untaken enough i v c q si oi =
        took-run steps later is cs rel (completed w.files stage) (untaken-both (steps ++ later) stage.inputs (optional_input w.files stage.optional) untaken (optional-untaken (steps ++ later) w.files stage.optional))
        (record { card = fit.card; parts = fit.parts w.files }) i v c q si (ap (λ stage. tool_run outcome cs stage r) (completed-same L w.files r.files agree.files stage) ∙ oi)
    took steps later is cs rel (Scan s) fit untaken enough i v c q si oi = took-scan s fit enough i v c q si oi

  -- ---- all steps of a plan

  pub record Gathers (w : Work) (r : Ran) (L : List Entry) (steps : List Step) (is : List Item) (v : Work) (cs : List (List ℕ)) (q : Ran) : Type 0 where
    pub next : Next w r L v q
    pub items : ItemsRel next.more steps is cs

  gathers : (before later : List Step) → AllByRecursion IsFitStep later → AllByRecursion (GivesUntaken (before ++ later)) later → AllByRecursion (ScansEnough outcome whole) later →
      (w : Work) (r : Ran) (L : List Entry) → Agree w r L → (is : List Item) (cs : List (List ℕ)) → ItemsRel L before is cs →
      (js : List Item) (v : Work) (ds : List (List ℕ)) (q : Ran) → gathered symbolic later is w ≡ Got js v → gathered (at_once outcome whole) later cs r ≡ Got ds q → Gathers w r L (before ++ later) js v ds q
  gathers before [] fit untaken enough w r L agree is cs rel js v ds q si oi =
      got-both (λ js v. Gathers w r L (before ++ []) js v ds q) is js w v si (got-both (λ ds q. Gathers w r L (before ++ []) is w ds q) cs ds r q oi
      (record { next = next-same w r L agree; items = subst (λ (steps : List Step). ItemsRel L steps is cs) (sym (append-nil before)) rel }))
  gathers before (step ∷ later) fit untaken enough w r L agree is cs rel js v ds q si oi =
      let a = follows (taken symbolic is step w) (λ item. gathered symbolic later (is ++ item ∷ [])) js v si in
      let b = follows (taken (at_once outcome whole) cs step r) (λ item. gathered (at_once outcome whole) later (cs ++ item ∷ [])) ds q oi in
      let one = took w r L agree before (step ∷ later) is cs rel step fit.0 untaken.0 enough.0 a.x a.middle b.x b.middle a.first b.first in
      let joined : (before ++ step ∷ []) ++ later ≡ before ++ step ∷ later = append_assoc before (step ∷ []) later in
      let all = gathers (before ++ step ∷ []) later fit.1 (subst (λ (steps : List Step). AllByRecursion (GivesUntaken steps) later) (sym joined) untaken.1) enough.1
      a.middle b.middle one.next.more one.next.agree (is ++ a.x ∷ []) (cs ++ b.x ∷ [])
      (items-one one.next.more before is cs step a.x b.x (items-extend L one.next.more one.next.extends before is cs rel) one.item) js v ds q a.last b.last in
      record { next = next-both w a.middle v r b.middle q L one.next all.next; items = subst (λ (steps : List Step). ItemsRel all.next.more steps js ds) joined all.items }

  -- ---- the changes of files

  abbrev ChangeRel : List Entry → Change → Change → Type 0
  ChangeRel L (Written p x) (Written o y) = (p ≡ o) × FileRel L (Some x) (Some y)
  ChangeRel L (Written p x) (Removed o) = ⊥
  ChangeRel L (Removed p) (Written o y) = ⊥
  ChangeRel L (Removed p) (Removed o) = p ≡ o

  abbrev ChangesRel : List Entry → List Change → List Change → Type 0
  ChangesRel L [] [] = Unit {0}
  ChangesRel L [] (b ∷ bs) = ⊥
  ChangesRel L (a ∷ as') [] = ⊥
  ChangesRel L (a ∷ as') (b ∷ bs) = ChangeRel L a b × ChangesRel L as' bs

  change-rel : (L : List Entry) (steps : List Step) (is : List Item) (cs : List (List ℕ)) → ItemsRel L steps is cs → (target : Target) → ChangeRel L (change_of symbolic is target) (change_of (at_once outcome whole) cs target)
  change-rel L steps is cs rel (Keep path place) = (refl, file-at L steps is cs place rel)
  change-rel L steps is cs rel (Drop path) = refl

  changes-rel : (L : List Entry) (steps : List Step) (is : List Item) (cs : List (List ℕ)) → ItemsRel L steps is cs → (targets : List Target) →
      ChangesRel L (map (change_of symbolic is) targets) (map (change_of (at_once outcome whole) cs) targets)
  changes-rel L steps is cs rel [] = tt
  changes-rel L steps is cs rel (target ∷ targets) = (change-rel L steps is cs rel target, changes-rel L steps is cs rel targets)

  related-change : (L : List Entry) (f g : Files) → Related L f g → (a b : Change) → ChangeRel L a b → Related L (after_change f a) (after_change g b)
  related-change L f g files (Written p x) (Removed o) h path = absurd h
  related-change L f g files (Removed p) (Written o y) h path = absurd h
  related-change L f g files (Written p x) (Written o y) h path =
      subst (λ (o : List ℕ). FileRel L (put_file f p x path) (put_file g o y path)) h.0 (by (bytes_eq path p))
    where
      by : (test : Bool) → FileRel L (cond test (Some x) (f path)) (cond test (Some y) (g path))
      by true = h.1
      by false = files path
  related-change L f g files (Removed p) (Removed o) h path =
      subst (λ (o : List ℕ). FileRel L (without_file f p path) (without_file g o path)) h (by (bytes_eq path p))
    where
      by : (test : Bool) → FileRel L (cond test None (f path)) (cond test None (g path))
      by true = tt
      by false = files path

  agree-changed : (w : Work) (r : Ran) (L : List Entry) → Agree w r L → (a b : Change) (ws : List Change) (rs : List Change) → ChangeRel L a b →
      Agree (record w { files = after_change w.files a; changes = ws }) (record r { files = after_change r.files b; changes = rs }) L
  agree-changed w r L agree a b ws rs h = record { ledger = agree.ledger; files = related-change L w.files r.files agree.files a b h; jobs = agree.jobs; rules = agree.rules; few = agree.few }

  changed-rel : (L : List Entry) (as' bs : List Change) → ChangesRel L as' bs → (w : Work) (r : Ran) → Agree w r L → (us : List (Unit {0})) (v : Work) (vs : List (Unit {0})) (q : Ran) →
      each symbolic.change as' w ≡ Got us v → each ((at_once outcome whole).change) bs r ≡ Got vs q → Agree v q L × (v.store.notes ≡ w.store.notes)
  changed-rel L [] [] h w r agree us v vs q si oi =
      got-both (λ us v. Agree v q L × (v.store.notes ≡ w.store.notes)) [] us w v si (got-both (λ vs q. Agree w q L × (w.store.notes ≡ w.store.notes)) [] vs r q oi (agree, refl))
  changed-rel L [] (b ∷ bs) h w r agree us v vs q si oi = absurd h
  changed-rel L (a ∷ as') [] h w r agree us v vs q si oi = absurd h
  changed-rel L (a ∷ as') (b ∷ bs) h w r agree us v vs q si oi =
      let x : Work = record w { files = after_change w.files a; changes = w.changes ++ a ∷ [] } in
      let y : Ran = record r { files = after_change r.files b; changes = r.changes ++ b ∷ [] } in
      let c = follows (each symbolic.change as' x) (λ ys. give (tt ∷ ys)) us v si in
      let d = follows (each ((at_once outcome whole).change) bs y) (λ ys. give (tt ∷ ys)) vs q oi in
      let all = changed-rel L as' bs h.1 x y (agree-changed w r L agree a b x.changes y.changes h.0) c.x c.middle d.x d.middle c.first d.first in (
        subst (λ (v : Work). Agree v q L) (got-state (tt ∷ c.x) us c.middle v c.last) (subst (λ (q : Ran). Agree c.middle q L) (got-state (tt ∷ d.x) vs d.middle q d.last) all.0),
        ap (λ (v : Work). v.store.notes) (sym (got-state (tt ∷ c.x) us c.middle v c.last)) ∙ all.1,
      )

  -- ---- a plan, and a build

  done-agrees : (plan : Plan) → Suits outcome whole plan → (w : Work) (r : Ran) (L : List Entry) → Agree w r L → (u : Unit {0}) (v : Work) (x : Unit {0}) (q : Ran) →
      done symbolic plan w ≡ Got u v → done (at_once outcome whole) plan r ≡ Got x q → Next w r L v q
  done-agrees plan suits w r L agree u v x q si oi =
      let sg = follows (gathered symbolic plan.steps [] w) (λ items. each symbolic.change (map (change_of symbolic items) plan.targets) >>= λ _. give tt) u v si in
      let og = follows (gathered (at_once outcome whole) plan.steps [] r) (λ items. each ((at_once outcome whole).change) (map (change_of (at_once outcome whole) items) plan.targets) >>= λ _. give tt) x q oi in
      let sd = follows (each symbolic.change (map (change_of symbolic sg.x) plan.targets) sg.middle) (λ _. give tt) u v sg.last in
      let od = follows (each ((at_once outcome whole).change) (map (change_of (at_once outcome whole) og.x) plan.targets) og.middle) (λ _. give tt) x q og.last in
      let g = gathers [] plan.steps suits.fit suits.untaken suits.scans w r L agree [] [] tt sg.x sg.middle og.x og.middle sg.first og.first in
      let d = changed-rel g.next.more (map (change_of symbolic sg.x) plan.targets) (map (change_of (at_once outcome whole) og.x) plan.targets) (changes-rel g.next.more plan.steps sg.x og.x g.items plan.targets)
      sg.middle og.middle g.next.agree sd.x sd.middle od.x od.middle sd.first od.first in
      record {
        more = g.next.more;
        extends = g.next.extends;
        agree = subst (λ (v : Work). Agree v q g.next.more) (got-state tt u sd.middle v sd.last) (subst (λ (q : Ran). Agree sd.middle q g.next.more) (got-state tt x od.middle q od.last) d.0);
        notes = ap (λ (v : Work). v.store.notes) (sym (got-state tt u sd.middle v sd.last)) ∙ d.1 ∙ g.next.notes;
      }

  pub built-agrees : (plans : List Plan) → AllByRecursion (Suits outcome whole) plans → (w : Work) (r : Ran) (L : List Entry) → Agree w r L → (u : Unit {0}) (v : Work) (x : Unit {0}) (q : Ran) →
      built symbolic plans w ≡ Got u v → built (at_once outcome whole) plans r ≡ Got x q → Next w r L v q
  built-agrees [] all w r L agree u v x q si oi =
      got-both (λ u v. Next w r L v q) tt u w v si (got-both (λ x q. Next w r L w q) tt x r q oi (next-same w r L agree))
  built-agrees (plan ∷ plans) all w r L agree u v x q si oi =
      let a = follows (done symbolic plan w) (λ _. built symbolic plans) u v si in
      let b = follows (done (at_once outcome whole) plan r) (λ _. built (at_once outcome whole) plans) x q oi in
      let one = done-agrees plan all.0 w r L agree a.x a.middle b.x b.middle a.first b.first in
      let rest = built-agrees plans all.1 a.middle b.middle one.more one.agree u v x q a.last b.last in
      next-both w a.middle v r b.middle q L one rest
