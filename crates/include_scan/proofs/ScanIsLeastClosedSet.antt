-- What a scan has visited when it ends: the least closed set, of files that are all there.
use Rattle.std.proofs.Common.{◌≡◌, ◌≤◌, ◌<◌, ◌+◌, ℕ, suc, zero, List, [], ◌∷◌, ◌++◌, Option, Some, None, IsTrue, length, take, drop, get_or, length-append, lit<, lit≤, refl, sym, ap, subst, ◌∙◌, arith, inl, inr}
use Rattle.std.specs.Prelude.{◌⊎◌, Contains, unwrap_or}
use Rattle.std.specs.List.{flat_map}
use Rattle.std.proofs.lemmas.Bool.{cases_lt, false≢true}
use Rattle.std.proofs.lemmas.List.{get_or_append_left, take_more, take-append-le, take_all, drop_all}
use Rattle.std.proofs.lemmas.List.Elements.{Contains-append_cases, Contains-append_left, Contains-append_right, Contains-push_cases}
use Rattle.std.proofs.lemmas.List.Folds.{list_any_at}
use Rattle.std.proofs.Math.Seq.{drop-cons}
use Rattle.thunk_codec.proofs.PublicLaws.{bytes_eq-self}
use Rattle.thunk_codec.specs.Files.{Files}
use Rattle.text_lines.specs.Lines.{lines_of}
use Rattle.tool_text.specs.Directive.{Target, directive_of}
use Rattle.tool_text.specs.IncludeLine.{IncludeForm, Other, Includes, Computed, include_of}
use Rattle.tool_text.specs.Including.{candidates, first_there}
use Rattle.text_lines.specs.Among.{is_among}
use Rattle.include_scan.specs.Scanned.{IsScanned, asked_by, line_targets, include_targets, bytes_at}
use Rattle.include_scan.specs.Scanning.{max_files, visit_file, visit_found, after_form, after_lines, after_file, after_first, gathered, scan_of}
use Rattle.include_scan.proofs.VisitedGrow.{HoldsOk, holds_map, bind_holds, AllIn, exists, Onward, none_visited, later_visited, still_visited, VisitsFile, visit_file_goes, among_cases, among_one}

-- nothing is in an empty list
none_in : {A : Type 0} (x : A) → Contains [] x → ⊥
none_in x c = let low = c.1 in omega (arith, low)

module _ (files : Files) (folders : List (List ℕ)) (source : List ℕ) where
  -- the first candidate of each of some include lines of a file where a file is was visited
  abbrev Covers : List Target → List ℕ → List (List ℕ) → Type 0
  Covers targets path now = (target : Target) → Contains targets target → (found : List ℕ)
      → first_there files (candidates folders path target) ≡ Some found → IsTrue (is_among now found)

  still_covers : (targets : List Target) (path : List ℕ) (visited now : List (List ℕ)) → Onward files folders source visited now → Covers targets path visited → Covers targets path now
  still_covers targets path visited now onward covers target c found is = still_visited files folders source visited now onward found (covers target c found is)

  -- what the lines of a file leave
  abbrev Goes : List Target → List ℕ → List (List ℕ) → List (List ℕ) → Type 0
  Goes targets path visited now = Onward files folders source visited now × Covers targets path now

  covers_none : (path : List ℕ) (now : List (List ℕ)) → Covers [] path now
  covers_none path now target c found is = absurd (none_in target c)

  goes_none : (path : List ℕ) (visited : List (List ℕ)) → Goes [] path visited visited
  goes_none path visited = (none_visited files folders source visited, covers_none path visited)

  -- an include line
  abbrev VisitsFound : Option (List ℕ) → List (List ℕ) → List (List ℕ) → Type 0
  VisitsFound wanted visited now = Onward files folders source visited now × ((found : List ℕ) → wanted ≡ Some found → IsTrue (is_among now found))

  found_goes : (path : List ℕ) (visited : List (List ℕ)) (target : Target) → IsTrue (is_among visited path) → Contains (include_targets (bytes_at files path)) target
      → (wanted : Option (List ℕ)) → first_there files (candidates folders path target) ≡ wanted → HoldsOk (VisitsFound wanted visited) (visit_found files wanted visited)
  found_goes path visited target among asks None is = (none_visited files folders source visited, λ found same. absurd (none_some found same)) where
    none_some : (found : List ℕ) → None ≡ Some found → ⊥
    none_some found same = subst is_none same tt where
      is_none : Option (List ℕ) → Type 0
      is_none None = Unit {0}
      is_none (Some x) = ⊥
  found_goes path visited target among asks (Some wanted) is =
      holds_map (visit_file files wanted visited) (λ now h. (h.0, λ found same. subst (λ p. IsTrue (is_among now (unwrap_or p []))) same h.1))
      (visit_file_goes files folders source wanted visited (λ other closed all. closed.includes_in path (all path among) target asks wanted is))

  form_goes : (path : List ℕ) (number : ℕ) (visited : List (List ℕ)) (form : IncludeForm) → IsTrue (is_among visited path)
      → ((target : Target) → Contains (asked_by form) target → Contains (include_targets (bytes_at files path)) target)
      → HoldsOk (Goes (asked_by form) path visited) (after_form files folders path number form visited)
  form_goes path number visited Computed among asks = tt
  form_goes path number visited (Includes target) among asks =
      holds_map (visit_found files (first_there files (candidates folders path target)) visited)
      (λ now h. (h.0, λ other c found is. covers other found (Contains-push_cases [] target other c) is now h.1))
      (found_goes path visited target among (asks target (0, lit< tt, refl)) (first_there files (candidates folders path target)) refl) where
        covers : (other : Target) (found : List ℕ) → Contains [] other ⊎ (target ≡ other) → first_there files (candidates folders path other) ≡ Some found
            → (now : List (List ℕ)) → ((found : List ℕ) → first_there files (candidates folders path target) ≡ Some found → IsTrue (is_among now found)) → IsTrue (is_among now found)
        covers other found (inl c) is now h = absurd (none_in other c)
        covers other found (inr same) is now h = h found (ap (λ t. first_there files (candidates folders path t)) same ∙ is)
  form_goes path number visited Other among asks = goes_none path visited

  covers_both : (first others : List Target) (path : List ℕ) (now : List (List ℕ)) → Covers first path now → Covers others path now → Covers (first ++ others) path now
  covers_both first others path now a b target c found is = by_parts (Contains-append_cases first others target c) where
    by_parts : Contains first target ⊎ Contains others target → IsTrue (is_among now found)
    by_parts (inl here) = a target here found is
    by_parts (inr there) = b target there found is

  lines_go : (path : List ℕ) (lines : List (List ℕ)) (number : ℕ) (visited : List (List ℕ)) → IsTrue (is_among visited path)
      → ((target : Target) → Contains (flat_map line_targets lines) target → Contains (include_targets (bytes_at files path)) target)
      → HoldsOk (Goes (flat_map line_targets lines) path visited) (after_lines files folders path number lines visited)
  lines_go path [] number visited among asks = goes_none path visited
  lines_go path (line ∷ lines) number visited among asks =
      let first : List Target = line_targets line in
      let others : List Target = flat_map line_targets lines in
      bind_holds (Goes (first ++ others) path visited) (after_form files folders path number (include_of (directive_of line)) visited) (λ now. after_lines files folders path (number + 1) lines now)
      (form_goes path number visited (include_of (directive_of line)) among (λ target c. asks target (Contains-append_left first others target c)))
      (λ now h. holds_map (after_lines files folders path (number + 1) lines now)
      (λ later g. (later_visited files folders source visited now later h.0 g.0, covers_both first others path later (still_covers first path now later g.0 h.1) g.1))
      (lines_go path lines (number + 1) now (still_visited files folders source visited now h.0 path among) (λ target c. asks target (Contains-append_right first others target c))))

  -- the first so many of the files that were visited are covered
  abbrev Covered : ℕ → List (List ℕ) → Type 0
  Covered index visited = (path : List ℕ) → IsTrue (is_among (take index visited) path) → Covers (include_targets (bytes_at files path)) path visited

  -- what going through one file leaves
  abbrev GoesThrough : ℕ → List (List ℕ) → List (List ℕ) → Type 0
  GoesThrough index visited now = Onward files folders source visited now × Covered (index + 1) now

  file_goes : (index : ℕ) (visited : List (List ℕ)) → Covered index visited → index < length visited → HoldsOk (GoesThrough index visited) (after_first files folders (drop index visited) visited)
  file_goes index visited covered low =
      let path : List ℕ = get_or visited index [] in
      subst (λ waiting. HoldsOk (GoesThrough index visited) (after_first files folders waiting visited)) (sym (drop-cons visited index [] low))
      (holds_map (after_file files folders path visited) (λ now h. (h.0, covered_more index visited now covered low h.0 h.1))
      (lines_go path (lines_of (bytes_at files path)) 1 visited (list_any_at _ visited index [] low (bytes_eq-self path)) (λ target c. c))) where
        covered_more : (index : ℕ) (visited now : List (List ℕ)) → Covered index visited → index < length visited → Onward files folders source visited now
            → Covers (include_targets (bytes_at files (get_or visited index []))) (get_or visited index []) now → Covered (index + 1) now
        covered_more index visited now covered low onward covers path among =
            by_parts (among_cases (take index visited) (get_or visited index [] ∷ []) path (subst (λ paths. IsTrue (is_among paths path)) prefix among)) where
              prefix : take (index + 1) now ≡ take index visited ++ get_or visited index [] ∷ []
              prefix = let long = length-append visited onward.more in
                  ap (take (index + 1)) onward.is ∙ (take_more (visited ++ onward.more) index [] (omega (arith, low, long))
                  ∙ (ap (λ paths. paths ++ get_or (visited ++ onward.more) index [] ∷ []) (take-append-le index visited onward.more (omega (arith, low)))
                  ∙ ap (λ path. take index visited ++ path ∷ []) (get_or_append_left visited onward.more [] index low)))

              by_parts : IsTrue (is_among (take index visited) path) ⊎ IsTrue (is_among (get_or visited index [] ∷ []) path) → Covers (include_targets (bytes_at files path)) path now
              by_parts (inl before) = still_covers _ path visited now onward (covered path before)
              by_parts (inr last) = subst (λ path. Covers (include_targets (bytes_at files path)) path now) (sym (among_one (get_or visited index []) path last)) covers

  past_the_end : (index : ℕ) (visited : List (List ℕ)) → Covered index visited → length visited ≤ index → Covered (index + 1) visited
  past_the_end index visited covered high path among =
      let all : take (index + 1) visited ≡ take index visited = take_all (index + 1) visited (omega (arith, high)) ∙ sym (take_all index visited high) in
      covered path (subst (λ paths. IsTrue (is_among paths path)) all among)

  index_goes : (index : ℕ) (visited : List (List ℕ)) → Covered index visited → HoldsOk (GoesThrough index visited) (after_first files folders (drop index visited) visited)
  index_goes index visited covered = by_index (cases_lt index (length visited)) where
    by_index : (index < length visited) ⊎ (length visited ≤ index) → HoldsOk (GoesThrough index visited) (after_first files folders (drop index visited) visited)
    by_index (inl low) = file_goes index visited covered low
    by_index (inr high) = subst (λ waiting. HoldsOk (GoesThrough index visited) (after_first files folders waiting visited)) (sym (drop_all index visited high))
        (none_visited files folders source visited, past_the_end index visited covered high)

  -- what going through more files leaves
  abbrev Gathers : ℕ → List (List ℕ) → List (List ℕ) → Type 0
  Gathers end visited now = Onward files folders source visited now × Covered end now

  gathered_goes : (more index : ℕ) (visited : List (List ℕ)) → Covered index visited → HoldsOk (Gathers (index + more) visited) (gathered files folders more index visited)
  gathered_goes zero index visited covered = (none_visited files folders source visited, subst (λ end. Covered end visited) (omega arith) covered)
  gathered_goes (suc more) index visited covered =
      bind_holds (Gathers (index + suc more) visited) (after_first files folders (drop index visited) visited) (λ now. gathered files folders more (index + 1) now) (index_goes index visited covered)
      (λ now h. holds_map (gathered files folders more (index + 1) now)
      (λ later g. (later_visited files folders source visited now later h.0 g.0, subst (λ end. Covered end later) (omega arith) g.1))
      (gathered_goes more (index + 1) now h.1))

  none_among : (path : List ℕ) → IsTrue (is_among [] path) → ⊥
  none_among path h = false≢true h

  -- what a scan leaves where there is no refusal
  pub record IsFoundAll (visited : List (List ℕ)) : Type 0 where
    pub scanned : IsScanned files folders source (is_among visited)
    pub there : AllIn files folders source (exists files folders source) visited

  found : (first visited : List (List ℕ)) → VisitsFile files folders source source [] first → Gathers max_files first visited → IsFoundAll visited
  found first visited h g =
      let onward : Onward files folders source [] visited = later_visited files folders source [] first visited h.0 g.0 in
      record {
        scanned = record {
          closed = record {
            source_in = still_visited files folders source first visited g.0 source h.1;
            includes_in = λ path among. g.1 path (subst (λ paths. IsTrue (is_among paths path)) (sym (take_all max_files visited (onward.few (lit≤ tt)))) among);
          };
          least = λ other closed. onward.least other closed (λ path among. absurd (none_among path among));
        };
        there = onward.there (λ path among. absurd (none_among path among));
      }

  pub scan_goes : HoldsOk IsFoundAll (scan_of files folders source)
  unfolding scan_of
  scan_goes = bind_holds IsFoundAll (visit_file files source []) (λ visited. gathered files folders max_files 0 visited)
      (visit_file_goes files folders source source [] (λ other closed all. closed.source_in))
      (λ first h. holds_map (gathered files folders max_files 0 first) (λ visited g. found first visited h g)
      (gathered_goes max_files 0 first (λ path among. absurd (none_among path among))))
