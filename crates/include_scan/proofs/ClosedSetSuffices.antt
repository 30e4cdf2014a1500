-- Preprocessing with the files of a closed set alone agrees with preprocessing with all files.
use Rattle.std.proofs.Common.{◌≡◌, ℕ, suc, zero, List, [], ◌∷◌, Bool, true, false, Option, Some, None, Result, Ok, Err, IsTrue, refl, sym, ap, ◌∙◌}
use Rattle.std.specs.Prelude.{Contains, unwrap_or, if◌then◌else◌}
use Rattle.std.specs.List.{flat_map}
use Rattle.std.specs.Option.{is_some}
use Rattle.std.proofs.lemmas.List.Elements.{Contains-append_left, Contains-append_right}
use Rattle.thunk_codec.specs.Files.{Files}
use Rattle.text_lines.specs.Lines.{lines_of}
use Rattle.tool_text.specs.declared.failure.Failure.{Failure}
use Rattle.tool_text.specs.Directive.{Target}
use Rattle.tool_text.specs.Expand.{Macros}
use Rattle.tool_text.specs.Including.{candidates, first_there}
use Rattle.tool_text.specs.declared.groups.Group.{Group}
use Rattle.tool_text.specs.Preprocess.{State, Taken, taken, followed, ran, found_or_not, going_into, processed, preprocessed}
use Rattle.tool_text.specs.Trying.{◌>>=◌}
use Rattle.include_scan.specs.Scanned.{IsClosed, line_targets, include_targets, bytes_at, only}
use Rattle.include_scan.proofs.LineGoesIntoTarget.{IsAmong, GoesInto, taken_goes}

-- two ways of going into files agree on some files
abbrev pub AgreeOn : List Target → (Target → State → Result State Failure) → (Target → State → Result State Failure) → Type 0
AgreeOn targets f g = (target : Target) → Contains targets target → (state : State) → f target state ≡ g target state

module _ (f g : Target → State → Result State Failure) where
  followed_agree : (targets : List Target) → AgreeOn targets f g → (target : Option Target) → IsAmong targets target → (state : State)
      → followed f target state ≡ followed g target state
  followed_agree targets agree None among state = refl
  followed_agree targets agree (Some target) among state = agree target among state

  bound_agree : (rest_f rest_g : State → Result State Failure) → ((state : State) → rest_f state ≡ rest_g state) → (first_f first_g : Result State Failure) → first_f ≡ first_g
      → (first_f >>= rest_f) ≡ (first_g >>= rest_g)
  bound_agree rest_f rest_g rests (Err failure) first_g same = rw (sym same) refl
  bound_agree rest_f rest_g rests (Ok state) first_g same = rw (sym same) (rests state)

  line_agree : (line : List ℕ) (lines : List (List ℕ)) → AgreeOn (flat_map line_targets (line ∷ lines)) f g
      → ((groups : List Group) (state : State) → ran f lines groups state ≡ ran g lines groups state)
      → (now : Result Taken Failure) → GoesInto (line_targets line) now
      → (now >>= λ now. followed f now.target now.state >>= λ next. ran f lines now.groups next)
      ≡ (now >>= λ now. followed g now.target now.state >>= λ next. ran g lines now.groups next)
  line_agree line lines agree rests (Err failure) goes = refl
  line_agree line lines agree rests (Ok now) goes =
      bound_agree (λ next. ran f lines now.groups next) (λ next. ran g lines now.groups next) (rests now.groups)
      _ _ (followed_agree (line_targets line) (λ target among state. agree target (Contains-append_left _ (flat_map line_targets lines) target among) state) now.target goes now.state)

  -- two ways of following that agree on what the lines ask for give the same
  pub ran_agree : (lines : List (List ℕ)) → AgreeOn (flat_map line_targets lines) f g → (groups : List Group) (state : State)
      → ran f lines groups state ≡ ran g lines groups state
  ran_agree [] agree groups state = refl
  ran_agree (line ∷ lines) agree groups state = line_agree line lines agree
      (ran_agree lines (λ target among state. agree target (Contains-append_right (line_targets line) _ target among) state))
      (taken line groups state) (taken_goes line groups state)

-- what holds in each case of an optional value
by_option : {A : Type 0} {P : Type 0} (x : Option A) → (x ≡ None → P) → ((value : A) → x ≡ Some value → P) → P
by_option None none some = none refl
by_option (Some value) none some = some value refl

if_either : {A : Type 0} (test : Bool) (x : A) → (if test then x else x) ≡ x
if_either true x = refl
if_either false x = refl

module _ (files : Files) (is_in : List ℕ → Bool) where
  only_in : (path : List ℕ) → IsTrue (is_in path) → only is_in files path ≡ files path
  only_in path inside = ap (λ test. if test then files path else None) inside

  only_absent : (path : List ℕ) → files path ≡ None → only is_in files path ≡ None
  only_absent path absent = ap (λ file. if is_in path then file else None) absent ∙ if_either (is_in path) None

  -- what is found first is in the set
  abbrev IsInside : List (Option (List ℕ)) → Type 0
  IsInside tried = (found : List ℕ) → first_there files tried ≡ Some found → IsTrue (is_in found)

  first_absent : (path : List ℕ) (tried : List (Option (List ℕ))) → IsInside (Some path ∷ tried)
      → (IsInside tried → first_there (only is_in files) tried ≡ first_there files tried)
      → files path ≡ None → first_there (only is_in files) (Some path ∷ tried) ≡ first_there files (Some path ∷ tried)
  first_absent path tried inside others absent =
      let all : first_there files (Some path ∷ tried) ≡ first_there files tried = ap (λ file. if is_some file then Some path else first_there files tried) absent in
      let some : first_there (only is_in files) (Some path ∷ tried) ≡ first_there (only is_in files) tried =
      ap (λ file. if is_some file then Some path else first_there (only is_in files) tried) (only_absent path absent) in
      some ∙ (others (λ found is. inside found (all ∙ is)) ∙ sym all)

  first_present : (path : List ℕ) (tried : List (Option (List ℕ))) → IsInside (Some path ∷ tried)
      → (bytes : List ℕ) → files path ≡ Some bytes → first_there (only is_in files) (Some path ∷ tried) ≡ first_there files (Some path ∷ tried)
  first_present path tried inside bytes present =
      let all : first_there files (Some path ∷ tried) ≡ Some path = ap (λ file. if is_some file then Some path else first_there files tried) present in
      let some : first_there (only is_in files) (Some path ∷ tried) ≡ Some path =
      ap (λ file. if is_some file then Some path else first_there (only is_in files) tried) (only_in path (inside path all) ∙ present) in
      some ∙ sym all

  -- the first of some tried is the same, where it is in the set
  first_only : (tried : List (Option (List ℕ))) → IsInside tried → first_there (only is_in files) tried ≡ first_there files tried
  first_only [] inside = refl
  first_only (None ∷ tried) inside = first_only tried inside
  first_only (Some path ∷ tried) inside = by_option (files path) (first_absent path tried inside (first_only tried)) (first_present path tried inside)

module _ (files : Files) (folders : List (List ℕ)) (source : List ℕ) (is_in : List ℕ → Bool) (is_closed : IsClosed files folders source is_in) where
  -- a file of the set is entered in the same way
  entered_agree : (enter_some enter_all : List ℕ → State → Result State Failure) → ((path : List ℕ) → IsTrue (is_in path) → (state : State) → enter_some path state ≡ enter_all path state)
      → (found : Option (List ℕ)) → ((path : List ℕ) → found ≡ Some path → IsTrue (is_in path)) → (state : State)
      → (found_or_not found >>= λ path. enter_some path state) ≡ (found_or_not found >>= λ path. enter_all path state)
  entered_agree enter_some enter_all agree None inside state = refl
  entered_agree enter_some enter_all agree (Some path) inside state = agree path (inside path refl) state

  going_agree : (levels : ℕ) → ((path : List ℕ) → IsTrue (is_in path) → (state : State) → processed (only is_in files) folders levels path state ≡ processed files folders levels path state)
      → (path : List ℕ) → IsTrue (is_in path) → AgreeOn (include_targets (bytes_at files path))
      (going_into (λ found now. processed (only is_in files) folders levels found now) (only is_in files) folders path)
      (going_into (λ found now. processed files folders levels found now) files folders path)
  going_agree levels below path inside target among state =
      let reached : (found : List ℕ) → first_there files (candidates folders path target) ≡ Some found → IsTrue (is_in found) = is_closed.includes_in path inside target among in
      ap (λ found. found_or_not found >>= λ path. processed (only is_in files) folders levels path state) (first_only files is_in (candidates folders path target) reached)
      ∙ entered_agree (λ path now. processed (only is_in files) folders levels path now) (λ path now. processed files folders levels path now) below (first_there files (candidates folders path target)) reached state

  -- a file of the set gives the same
  processed_agree : (levels : ℕ) (path : List ℕ) → IsTrue (is_in path) → (state : State)
      → processed (only is_in files) folders levels path state ≡ processed files folders levels path state
  processed_agree zero path inside state = refl
  processed_agree (suc levels) path inside state =
      ap (λ file. ran (going_into (λ found now. processed (only is_in files) folders levels found now) (only is_in files) folders path) (lines_of (unwrap_or file [])) [] state) (only_in files is_in path inside)
      ∙ ran_agree _ _ (lines_of (bytes_at files path)) (going_agree levels (processed_agree levels) path inside) [] state

  -- preprocessing with the files of the set alone gives the same
  pub preprocessed_agree : (macros : Macros) → preprocessed (only is_in files) folders macros source ≡ preprocessed files folders macros source
  unfolding preprocessed
  preprocessed_agree macros = processed_agree 201 source is_closed.source_in (record { macros = macros; count = 0; out = [] })
