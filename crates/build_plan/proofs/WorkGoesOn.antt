-- Work of which some is done goes on with what is left.
use Rattle.std.proofs.Common.{◌≡◌, ◌+◌, inl, ℕ, List, [], ◌++◌, Result, Ok, Err, IsErr, IsErrAnd, refl, sym, ap, subst, ◌∙◌, append_assoc, append-nil, arith}
use Rattle.object_name.specs.Streams.{IsPrefix}
use Rattle.object_name.proofs.PublicLaws.{ListsMade-after}
use Rattle.blob_store.specs.Store.{Store, Write, written}
use Rattle.blob_store.specs.Keeping.{Kept, WritesPrefix, all_written}
use Rattle.blob_store.proofs.PublicLaws.{written-append, all_written-none, all_written-append}
use Rattle.file_tree.specs.Files.{Filed}
use Rattle.file_tree.specs.declared.model_fault.ApplyFault.{ApplyFault}
use Rattle.file_tree.specs.declared.model_fault.ApplyFault.TheVariants as faults
use Rattle.build_plan.specs.Doing.{Why, Ended, Stopped, Doing, ◌>>=◌, give, go_on, unless, state_after}
use Rattle.build_plan.specs.Symbolic.{Work}
use Rattle.build_plan.specs.Applying.{Sides}
use Rattle.build_plan.specs.StepContracts.{between, IsAt, with_writes, Leads, StopsAfter, IsCutOff, Goes, Finds}
use Rattle.build_plan.proofs.WritesGrow.{Grows, grows-on, prefix-same, prefix-trans}

-- ---- states with more writes

pub with_writes-none : (w : Work) → w ≡ with_writes w [] 0
with_writes-none w =
    let number : w.thunks ≡ w.thunks + 0 = omega arith in
    λ i. record w { writes = sym (append-nil w.writes) i; thunks = number i }

pub with_writes-both : (w : Work) (first others : List Write) (m n : ℕ) → with_writes (with_writes w first m) others n ≡ with_writes w (first ++ others) (m + n)
with_writes-both w first others m n =
    let number : w.thunks + m + n ≡ w.thunks + (m + n) = omega arith in
    λ i. record w { store = sym (written-append w.store first others) i; writes = append_assoc w.writes first others i; thunks = number i }

-- ---- prefixes of writes

-- all of some writes are a prefix of them
pub all-prefix : (made : List Write) (before after : Kept) → after ≡ all_written before made → WritesPrefix made before after
all-prefix made before after h = record {
  prefix = made;
  is_prefix = prefix-same made;
  store = ap (λ (k : Kept). k.store) h;
  listed = inl (ap (λ (k : Kept). k.writes) h);
}

-- a prefix of what is written after some writes
pub prefix-after : (made first : List Write) (a b c : Kept) → b ≡ all_written a made → WritesPrefix first b c → WritesPrefix (made ++ first) a c
prefix-after made first a b c h k = record {
  prefix = made ++ k.prefix;
  is_prefix = record { rest = k.is_prefix.rest; whole = ap (λ l. made ++ l) k.is_prefix.whole ∙ sym (append_assoc made k.prefix k.is_prefix.rest) };
  store = k.store ∙ ap (λ (kept : Kept). written kept.store k.prefix) h ∙ sym (written-append a.store made k.prefix);
  listed = ListsMade-after a.writes b.writes c.writes made k.prefix (ap (λ (kept : Kept). kept.writes) h) k.listed;
}

-- ---- what is left of some work

-- nothing is done yet
pub leads-none : {A : Type 0} (work : Doing Work A) (a b : Kept) (f g : Filed) → b ≡ a → g ≡ f → Leads work work 0 (between a b f g)
leads-none work a b f g kept files = record {
  made = [];
  kept = kept ∙ all_written-none a;
  files = files;
  goes_on = λ w at. ap work (with_writes-none w);
}

-- where some is done, the work may be cut off
pub leads-cut : {A : Type 0} (work left : Doing Work A) (m : ℕ) (s : Sides) → Leads work left m s → Grows left → IsCutOff work s
leads-cut {A = A} work left m s h grows = record {
  first = h.made;
  kept = all-prefix h.made s.kept_before s.kept_after h.kept;
  files = h.files;
  begins = λ w at. subst (λ (e : Ended Work A). IsPrefix (w.writes ++ h.made) (state_after e).writes) (sym (h.goes_on w at)) (grows (with_writes w h.made m));
}

pub cut-none : {A : Type 0} (work : Doing Work A) (a b : Kept) (f g : Filed) → b ≡ a → g ≡ f → Grows work → IsCutOff work (between a b f g)
cut-none work a b f g kept files grows = leads-cut work work 0 (between a b f g) (leads-none work a b f g kept files) grows

module _ {A : Type 0} (work middle : Doing Work A) (m : ℕ) (a b c : Kept) (f g h : Filed) (first : Leads work middle m (between a b f g)) where
  at-middle : (w : Work) → IsAt w a f → IsAt (with_writes w first.made m) b g
  at-middle w at = record {
    store = ap (λ (s : Store). written s first.made) at.store ∙ sym (ap (λ (k : Kept). k.store) first.kept);
    files = at.files ∙ sym (ap (λ (x : Filed). x.files) first.files);
  }

  -- what is left after more is done
  pub leads-on : (left : Doing Work A) (n : ℕ) → Leads middle left n (between b c g h) → Leads work left (m + n) (between a c f h)
  leads-on left n then = record {
    made = first.made ++ then.made;
    kept = then.kept ∙ ap (λ (k : Kept). all_written k then.made) first.kept ∙ sym (all_written-append a first.made then.made);
    files = then.files ∙ first.files;
    goes_on = λ w at. first.goes_on w at ∙ then.goes_on (with_writes w first.made m) (at-middle w at) ∙ ap left (with_writes-both w first.made then.made m n);
  }

  pub stops-on : (why : Why) → StopsAfter middle why (between b c g h) → StopsAfter work why (between a c f h)
  stops-on why then = record { thunks = m + then.thunks; leads = leads-on (λ w. Stopped why w) then.thunks then.leads }

  pub cut-on : IsCutOff middle (between b c g h) → IsCutOff work (between a c f h)
  cut-on then = record {
    first = first.made ++ then.first;
    kept = prefix-after first.made then.first a b c first.kept then.kept;
    files = then.files ∙ first.files;
    begins = λ w at.
        let u = with_writes w first.made m in
        subst (λ (e : Ended Work A). IsPrefix (w.writes ++ (first.made ++ then.first)) (state_after e).writes) (sym (first.goes_on w at))
        (subst (λ (l : List Write). IsPrefix l (state_after (middle u)).writes) (append_assoc w.writes first.made then.first) (then.begins u (at-middle w at)));
  }

  -- what is left ends the whole
  pub goes-on : (n : ℕ) (r : Result A ApplyFault) → Goes middle n (between b c g h) r → Goes work (m + n) (between a c f h) r
  goes-on n (Ok x) then = leads-on (give x) n then
  goes-on n (Err (faults.Refused refusal)) then = stops-on _ then
  goes-on n (Err (faults.Reason reason)) then = stops-on _ then
  goes-on n (Err (faults.Clash name found fresh)) then = stops-on _ then
  goes-on n (Err faults.StoreFailed) then = cut-on then
  goes-on n (Err faults.FileFailed) then = cut-on then
  goes-on n (Err faults.Memory) then = cut-on then

-- ---- one work after another

-- what the first gave is what the next goes on with
pub leads-bind : {A B : Type 0} (work : Doing Work A) (next : A → Doing Work B) (x : A) (m : ℕ) (s : Sides) → Leads work (give x) m s → Leads (work >>= next) (next x) m s
leads-bind work next x m s h = record { made = h.made; kept = h.kept; files = h.files; goes_on = λ w at. ap (λ e. go_on e next) (h.goes_on w at) }

stops-bind : {A B : Type 0} (work : Doing Work A) (next : A → Doing Work B) (why : Why) (s : Sides) → StopsAfter work why s → StopsAfter (work >>= next) why s
stops-bind work next why s h = record {
  thunks = h.thunks;
  leads = record { made = h.leads.made; kept = h.leads.kept; files = h.leads.files; goes_on = λ w at. ap (λ e. go_on e next) (h.leads.goes_on w at) };
}

cut-bind : {A B : Type 0} (work : Doing Work A) (next : A → Doing Work B) (s : Sides) → ((x : A) → Grows (next x)) → IsCutOff work s → IsCutOff (work >>= next) s
cut-bind work next s grows h = record {
  first = h.first;
  kept = h.kept;
  files = h.files;
  begins = λ w at. prefix-trans (w.writes ++ h.first) (state_after (work w)).writes (state_after (go_on (work w) next)).writes (h.begins w at) (grows-on (work w) next grows);
}

-- where the first ends at a fault, so does the whole
pub goes-bind : {A B : Type 0} (work : Doing Work A) (next : A → Doing Work B) (m n : ℕ) (s : Sides) (fault : ApplyFault) → ((x : A) → Grows (next x)) → Goes work m s (Err fault) → Goes (work >>= next) n s (Err fault)
goes-bind work next m n s (faults.Refused refusal) grows h = stops-bind work next _ s h
goes-bind work next m n s (faults.Reason reason) grows h = stops-bind work next _ s h
goes-bind work next m n s (faults.Clash name found fresh) grows h = stops-bind work next _ s h
goes-bind work next m n s faults.StoreFailed grows h = cut-bind work next s grows h
goes-bind work next m n s faults.FileFailed grows h = cut-bind work next s grows h
goes-bind work next m n s faults.Memory grows h = cut-bind work next s grows h

-- where the first gives something, the next ends the whole
pub goes-then : {A B : Type 0} (work : Doing Work A) (next : A → Doing Work B) (x : A) (m n : ℕ) (a b c : Kept) (f g h : Filed) (r : Result B ApplyFault)
    → Goes work m (between a b f g) (Ok x) → Goes (next x) n (between b c g h) r → Goes (work >>= next) (m + n) (between a c f h) r
goes-then work next x m n a b c f g h r first then = goes-on (work >>= next) (next x) m a b c f g h (leads-bind work next x m (between a b f g) first) n r then

-- where the first gives something, the whole may be cut off before the next begins
pub cut-then : {A B : Type 0} (work : Doing Work A) (next : A → Doing Work B) (x : A) (m : ℕ) (s : Sides) → Grows (next x) → Goes work m s (Ok x) → IsCutOff (work >>= next) s
cut-then work next x m s grows first = leads-cut (work >>= next) (next x) m s (leads-bind work next x m s first) grows

-- the number of thunks of an answer that is a fault doesn't matter
pub goes-fault : {A : Type 0} (work : Doing Work A) (m n : ℕ) (s : Sides) (fault : ApplyFault) → Goes work m s (Err fault) → Goes work n s (Err fault)
goes-fault work m n s (faults.Refused refusal) h = h
goes-fault work m n s (faults.Reason reason) h = h
goes-fault work m n s (faults.Clash name found fresh) h = h
goes-fault work m n s faults.StoreFailed h = h
goes-fault work m n s faults.FileFailed h = h
goes-fault work m n s faults.Memory h = h

-- work that is the same from where it begins goes the same way
pub leads-same : {A : Type 0} (work other left : Doing Work A) (m : ℕ) (s : Sides) → ((w : Work) → IsAt w s.kept_before s.files_before → work w ≡ other w) → Leads other left m s → Leads work left m s
leads-same work other left m s same h = record { made = h.made; kept = h.kept; files = h.files; goes_on = λ w at. same w at ∙ h.goes_on w at }

pub goes-same : {A : Type 0} (work other : Doing Work A) (m : ℕ) (s : Sides) (r : Result A ApplyFault) → ((w : Work) → IsAt w s.kept_before s.files_before → work w ≡ other w) → Goes other m s r → Goes work m s r
goes-same {A = A} work other m s r same = by r
  where
    cut : IsCutOff other s → IsCutOff work s
    cut h = record {
      first = h.first;
      kept = h.kept;
      files = h.files;
      begins = λ w at. subst (λ (e : Ended Work A). IsPrefix (w.writes ++ h.first) (state_after e).writes) (sym (same w at)) (h.begins w at);
    }

    stop : (why : Why) → StopsAfter other why s → StopsAfter work why s
    stop why h = record { thunks = h.thunks; leads = leads-same work other (λ w. Stopped why w) h.thunks s same h.leads }

    by : (r : Result A ApplyFault) → Goes other m s r → Goes work m s r
    by (Ok x) h = leads-same work other (give x) m s same h
    by (Err (faults.Refused refusal)) h = stop _ h
    by (Err (faults.Reason reason)) h = stop _ h
    by (Err (faults.Clash name found fresh)) h = stop _ h
    by (Err faults.StoreFailed) h = cut h
    by (Err faults.FileFailed) h = cut h
    by (Err faults.Memory) h = cut h

-- a fault that a `?` hands on
pub handed : {A : Type 0} (P : Result A ApplyFault → Type 0) (r : Result A ApplyFault) (fault : ApplyFault) → IsErr r × IsErrAnd r (λ d. d ≡ fault) → P (Err fault) → P r
handed P (Ok x) fault h p = absurd h.1
handed P (Err d) fault h p = subst (λ e. P (Err e)) (sym h.1) p

-- ---- what was read

-- work that is what was found goes as it was found
pub goes-found : {A : Type 0} (work : Doing Work A) (wanted : Result A Why) (a : Kept) (f g : Filed) (r : Result A ApplyFault)
    → g ≡ f → Grows work → ((w : Work) → w.files ≡ f.files → work w ≡ unless wanted w) → Finds wanted r → Goes work 0 (between a a f g) r
goes-found {A = A} work wanted a f g r files grows is = by r
  where
    stop : (why : Why) → wanted ≡ Err why → StopsAfter work why (between a a f g)
    stop why e = record {
      thunks = 0;
      leads = record {
        made = [];
        kept = all_written-none a;
        files = files;
        goes_on = λ w at. is w at.files ∙ ap (λ r. unless r w) e ∙ ap (λ w. Stopped why w) (with_writes-none w);
      };
    }

    cut : IsCutOff work (between a a f g)
    cut = leads-cut work work 0 (between a a f g) (leads-none work a a f g refl files) grows

    by : (r : Result A ApplyFault) → Finds wanted r → Goes work 0 (between a a f g) r
    by (Ok x) e = record {
      made = [];
      kept = all_written-none a;
      files = files;
      goes_on = λ w at. is w at.files ∙ ap (λ r. unless r w) e ∙ ap (give x) (with_writes-none w);
    }
    by (Err (faults.Refused refusal)) e = stop _ e
    by (Err (faults.Reason reason)) e = stop _ e
    by (Err (faults.Clash name found fresh)) e = absurd e
    by (Err faults.StoreFailed) e = absurd e
    by (Err faults.FileFailed) e = cut
    by (Err faults.Memory) e = cut
