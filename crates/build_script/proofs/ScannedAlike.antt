-- Scanning looks at which files are there, and at the bytes of files that are no placeholders: a tree that is alike but for placeholders
-- is scanned alike.
use Rattle.std.proofs.Common.{◌≡◌, ◌≤◌, ◌<◌, map, arith, ltb-true, length-append, ℕ, zero, suc, ◌+◌, Bool, true, false, cond, ◌||◌, List, [], ◌∷◌, ◌++◌, Option, Some, None, Result, Ok, Err, length, drop, refl, sym, ap, subst, ◌∙◌}
use Rattle.std.specs.Prelude.{is_some, nat_lt, nat_le, bytes_eq, unwrap_or}
use Rattle.std.specs.List.{AllByRecursion, IsDistinct}
use Rattle.std.proofs.lemmas.Bool.{false≢true, false_from_ne_true}
use Rattle.std.proofs.lemmas.Option.{none-some, same_Some}
use Rattle.std.proofs.lemmas.Slice.Eq.{bytes_eq-Decides}
use Rattle.thunk_codec.specs.Files.{Files}
use Rattle.thunk_codec.specs.Folder.{joined_from}
use Rattle.thunk_codec.specs.Path.{is_path, path_of}
use Rattle.thunk_codec.proofs.PublicLaws.{path_is_path}
use Rattle.object_name.specs.Name.{ObjectName, max_size}
use Rattle.thunk_codec.specs.Placeholder.{placeholder_of}
use Rattle.file_tree.specs.declared.refusal.FileRefusal.{FileRefusal}
use Rattle.file_tree.specs.declared.refusal.FileRefusal.TheVariants as refusals
use Rattle.file_tree.specs.declared.tree.FileRead.TheVariants as reads
use Rattle.text_lines.specs.Among.{is_among}
use Rattle.thunk_codec.specs.Sorted.{sorted_paths}
use Rattle.thunk_codec.proofs.PublicLaws.{sorted_paths-same, sorted_paths-rise, length-sorted_paths}
use Rattle.text_lines.specs.Lines.{lines_of}
use Rattle.text_lines.specs.Maybe.{test_some}
use Rattle.tool_text.specs.Directive.{Target, directive_of}
use Rattle.tool_text.specs.IncludeLine.{IncludeForm, Other, Includes, Computed, include_of}
use Rattle.tool_text.specs.Including.{candidates, first_there, folders_for, asked_file}
use Rattle.tool_text.specs.Trying.{◌>>=◌}
use Rattle.include_scan.specs.declared.fault.ScanFault.{ScanFault}
use Rattle.include_scan.specs.declared.fault.ScanFault.TheVariants.{TooMany}
use Rattle.include_scan.specs.Scanned.{bytes_at}
use Rattle.include_scan.specs.Scanning.{IsInOrder, Visiting, scanned_paths, max_files, refusal_of_read, refusal_of, unless_refused, visit_file, visit_found, after_form, after_lines, after_first, gathered, scan_of}

-- the same file, but that one may be a placeholder
abbrev pub FileLike : Option (List ℕ) → Option (List ℕ) → Type 0
FileLike None None = Unit {0}
FileLike None (Some y) = ⊥
FileLike (Some x) None = ⊥
FileLike (Some x) (Some y) = placeholder_of x ≡ None → x ≡ y

-- ---- paths of which none is repeated

differ-turned : (a b : List ℕ) → bytes_eq a b ≡ false → bytes_eq b a ≡ false
differ-turned a b h = false_from_ne_true (bytes_eq b a) (λ same. false≢true (sym h ∙ (bytes_eq-Decides a b).1 (sym ((bytes_eq-Decides b a).0 same))))

differ-push : (first path : List ℕ) (paths : List (List ℕ)) → AllByRecursion (λ y. bytes_eq first y ≡ false) paths → bytes_eq first path ≡ false → AllByRecursion (λ y. bytes_eq first y ≡ false) (paths ++ path ∷ [])
differ-push first path [] all one = (one, tt)
differ-push first path (x ∷ paths) all one = (all.0, differ-push first path paths all.1 one)

or-parts : (a b : Bool) → (a || b) ≡ false → (a ≡ false) × (b ≡ false)
or-parts true b is = absurd (false≢true (sym is))
or-parts false b is = (refl, is)

distinct-push : (paths : List (List ℕ)) (path : List ℕ) → IsDistinct bytes_eq paths → is_among paths path ≡ false → IsDistinct bytes_eq (paths ++ path ∷ [])
unfolding IsDistinct
distinct-push [] path distinct absent = (tt, tt)
distinct-push (x ∷ paths) path distinct absent =
    let parts = or-parts (bytes_eq path x) (is_among paths path) absent in
    (differ-push x path paths distinct.0 (differ-turned path x parts.0), distinct-push paths path distinct.1 parts.1)

distinct-none : IsDistinct bytes_eq []
unfolding IsDistinct
distinct-none = tt

-- ---- paths among others

-- what holds of each of some paths holds of those among them
pub of-among : (P : List ℕ → Type 0) (visited : List (List ℕ)) → AllByRecursion P visited → (path : List ℕ) → is_among visited path ≡ true → P path
of-among P [] all path h = absurd (cc h)
of-among P (x ∷ visited) all path h = by (of-among P visited all.1 path) (bytes_eq path x) refl h
  where
    by : (is_among visited path ≡ true → P path) → (test : Bool) → bytes_eq path x ≡ test → (test || is_among visited path) ≡ true → P path
    by rest true is h = subst P (sym ((bytes_eq-Decides path x).0 is)) all.0
    by rest false is h = rest h

among-self : (path : List ℕ) (paths : List (List ℕ)) → is_among (path ∷ paths) path ≡ true
among-self path paths = ap (λ test. test || is_among paths path) ((bytes_eq-Decides path path).1 refl)

among-behind : (x : List ℕ) (paths : List (List ℕ)) (path : List ℕ) → is_among paths path ≡ true → is_among (x ∷ paths) path ≡ true
among-behind x paths path h = by (bytes_eq path x)
  where
    by : (test : Bool) → (test || is_among paths path) ≡ true
    by true = refl
    by false = h

pub all-among : (P : List ℕ → Type 0) (paths : List (List ℕ)) → ((path : List ℕ) → is_among paths path ≡ true → P path) → AllByRecursion P paths
all-among P [] all = tt
all-among P (x ∷ paths) all = (all x (among-self x paths), all-among P paths (λ path h. all path (among-behind x paths path h)))

-- ---- steps that may fail

abbrev IsOkay : {A E : Type 0} → Result A E → Type 0
IsOkay (Ok x) = Unit {0}
IsOkay (Err e) = ⊥

abbrev ok_or : {A E : Type 0} → A → Result A E → A
ok_or other (Ok x) = x
ok_or other (Err e) = other

err-ok : {A : Type 0} (e : ScanFault) (x : A) → ◌≡◌ {A = Result A ScanFault} (Err e) (Ok x) → ⊥
err-ok {A} e x is = subst (IsOkay {A = A} {E = ScanFault}) (sym is) tt

record Tried {A B : Type 0} (m : Result A ScanFault) (h : A → Result B ScanFault) (y : B) : Type 0 where
  x : A
  first : m ≡ Ok x
  last : h x ≡ Ok y

tried : {A B : Type 0} (m : Result A ScanFault) (h : A → Result B ScanFault) (y : B) → (m >>= h) ≡ Ok y → Tried m h y
tried (Ok x) h y is = record { x = x; first = refl; last = is }
tried (Err e) h y is = absurd (err-ok e y is)

some-like : (x y : Option (List ℕ)) → FileLike x y → is_some x ≡ is_some y
some-like None None h = refl
some-like None (Some y) h = absurd h
some-like (Some x) None h = absurd h
some-like (Some x) (Some y) h = refl

module _ (f g : Files) (alike : (path : List ℕ) → FileLike (f path) (g path)) where
  first-like : (paths : List (Option (List ℕ))) → first_there f paths ≡ first_there g paths
  first-like [] = refl
  first-like (None ∷ others) = first-like others
  first-like (Some path ∷ others) = λ i. cond (some-like (f path) (g path) (alike path) i) (Some path) (first-like others i)

  -- a file that was visited is the same, isn't refused, and its path is normal
  abbrev Plain : List ℕ → Type 0
  Plain path = (f path ≡ g path) × (refusal_of path (f path) ≡ None) × (is_path path ≡ true)

  -- so are those that were visited, they are few, and none of them is repeated
  abbrev Same : List (List ℕ) → Type 0
  Same visited = AllByRecursion Plain visited × (length visited ≤ 4096) × IsDistinct bytes_eq visited

  plain-more : (visited : List (List ℕ)) (path : List ℕ) → AllByRecursion Plain visited → Plain path → AllByRecursion Plain (visited ++ path ∷ [])
  plain-more [] path h one = (one, tt)
  plain-more (x ∷ visited) path h one = (h.0, plain-more visited path h.1 one)

  plain-drop : (k : ℕ) (visited : List (List ℕ)) → AllByRecursion Plain visited → AllByRecursion Plain (drop k visited)
  plain-drop zero visited h = h
  plain-drop (suc k) [] h = h
  plain-drop (suc k) (x ∷ visited) h = plain-drop k visited h.1

  joined-path : (folder text path : List ℕ) → joined_from folder text ≡ Some path → is_path path ≡ true
  unfolding joined_from
  joined-path folder text path is = path_is_path (folder ++ 47 ∷ text) path (test_some _ (path_of (folder ++ 47 ∷ text)) path is).1

  first-path : (folders : List (List ℕ)) (text path : List ℕ) → first_there f (map (λ folder. joined_from folder text) folders) ≡ Some path → is_path path ≡ true
  first-path [] text path is = absurd (none-some path is)
  first-path (folder ∷ folders) text path is = by (first-path folders text path) (joined_from folder text) refl is
    where
      by : (first_there f (map (λ folder. joined_from folder text) folders) ≡ Some path → is_path path ≡ true) → (one : Option (List ℕ)) → joined_from folder text ≡ one →
          first_there f (one ∷ map (λ folder. joined_from folder text) folders) ≡ Some path → is_path path ≡ true
      by rest None j is = rest is
      by rest (Some found) j is = by_there (is_some (f found)) is
        where
          by_there : (test : Bool) → cond test (Some found) (first_there f (map (λ folder. joined_from folder text) folders)) ≡ Some path → is_path path ≡ true
          by_there true is = subst (λ (p : List ℕ). is_path p ≡ true) (same_Some found path is) (joined-path folder text found j)
          by_there false is = rest is

  target-path : (folders : List (List ℕ)) (path : List ℕ) (target : Target) (found : Option (List ℕ)) → first_there f (candidates folders path target) ≡ found → (p : List ℕ) → found ≡ Some p → is_path p ≡ true
  unfolding candidates
  target-path folders path target found is p some = first-path (folders_for folders path target) (asked_file target) p (is ∙ some)

  -- scanning went on alike
  abbrev Alike : Visiting → Visiting → List (List ℕ) → Type 0
  Alike m n now = (n ≡ Ok now) × Same now

  -- a file that isn't refused is the same
  not-refused : (path : List ℕ) (x y : Option (List ℕ)) → FileLike x y → (refused : Option FileRefusal) → refusal_of path x ≡ refused → refused ≡ None → x ≡ y
  not-refused path None y like refused is none = absurd (none-some _ (sym (is ∙ none)))
  not-refused path (Some x) None like refused is none = absurd like
  not-refused path (Some x) (Some y) like refused is none = by_size (nat_le (length x) max_size) (is ∙ none)
    where
      by_found : (found : Option (ObjectName × ℕ)) → placeholder_of x ≡ found → cond (is_some found) (Some (refusals.Generated path)) None ≡ None → Some x ≡ Some y
      by_found None p e = ap (λ b. Some b) (like p)
      by_found (Some output) p e = absurd (none-some _ (sym e))

      by_size : (test : Bool) → refusal_of_read path (cond test (reads.Bytes x) reads.TooLong) ≡ None → Some x ≡ Some y
      by_size true e = by_found (placeholder_of x) refl e
      by_size false e = absurd (none-some _ (sym e))

  visit_file-like : (path : List ℕ) (visited now : List (List ℕ)) → is_path path ≡ true → Same visited → visit_file f path visited ≡ Ok now → Alike (visit_file f path visited) (visit_file g path visited) now
  unfolding visit_file
  visit_file-like path visited now normal same is = by_among (is_among visited path) refl is
    where
      by_refused : is_among visited path ≡ false → length visited < 4096 → (refused : Option FileRefusal) → refusal_of path (f path) ≡ refused → unless_refused refused (visited ++ path ∷ []) ≡ Ok now →
          (unless_refused (refusal_of path (g path)) (visited ++ path ∷ []) ≡ Ok now) × Same now
      by_refused new low (Some refusal) r e = absurd (err-ok _ now e)
      by_refused new low None r e =
          let one : f path ≡ g path = not-refused path (f path) (g path) (alike path) None r refl in (
            ap (λ refused. unless_refused refused (visited ++ path ∷ [])) (sym (ap (refusal_of path) one) ∙ r) ∙ e,
            subst Same (ap (ok_or now) e)
                (plain-more visited path same.0 (one, r, normal), (let long = length-append visited (path ∷ []) in omega (arith, low, long)), distinct-push visited path same.2 new),
          )

      by_few : is_among visited path ≡ false → (test : Bool) → nat_lt (length visited) max_files ≡ test → cond test (unless_refused (refusal_of path (f path)) (visited ++ path ∷ [])) (Err TooMany) ≡ Ok now →
          (cond test (unless_refused (refusal_of path (g path)) (visited ++ path ∷ [])) (Err TooMany) ≡ Ok now) × Same now
      by_few new true low e = by_refused new (ltb-true _ _ low) (refusal_of path (f path)) refl e
      by_few new false low e = absurd (err-ok TooMany now e)

      by_among : (test : Bool) → is_among visited path ≡ test → cond test (Ok visited) (cond (nat_lt (length visited) max_files) (unless_refused (refusal_of path (f path)) (visited ++ path ∷ [])) (Err TooMany)) ≡ Ok now →
          (cond test (Ok visited) (cond (nat_lt (length visited) max_files) (unless_refused (refusal_of path (g path)) (visited ++ path ∷ [])) (Err TooMany)) ≡ Ok now) × Same now
      by_among true new e = (e, subst Same (ap (ok_or now) e) same)
      by_among false new e = by_few new (nat_lt (length visited) max_files) refl e

  module _ (folders : List (List ℕ)) where
    visit_found-like : (found : Option (List ℕ)) → ((p : List ℕ) → found ≡ Some p → is_path p ≡ true) → (visited now : List (List ℕ)) → Same visited → visit_found f found visited ≡ Ok now → Alike (visit_found f found visited) (visit_found g found visited) now
    visit_found-like None normal visited now same is = (is, subst Same (ap (ok_or now) is) same)
    visit_found-like (Some path) normal visited now same is = visit_file-like path visited now (normal path refl) same is

    stays : (visited now : List (List ℕ)) → Same visited → ◌≡◌ {A = Visiting} (Ok visited) (Ok now) → (◌≡◌ {A = Visiting} (Ok visited) (Ok now)) × Same now
    stays visited now same is = (is, subst Same (ap (ok_or now) is) same)

    form-like : (path : List ℕ) (number : ℕ) (form : IncludeForm) (visited now : List (List ℕ)) → Same visited → after_form f folders path number form visited ≡ Ok now →
        Alike (after_form f folders path number form visited) (after_form g folders path number form visited) now
    form-like path number Other visited now same is = stays visited now same is
    form-like path number Computed visited now same is = absurd (err-ok _ now is)
    form-like path number (Includes target) visited now same is =
        let both = visit_found-like (first_there f (candidates folders path target)) (target-path folders path target (first_there f (candidates folders path target)) refl) visited now same is in
        (ap (λ found. visit_found g found visited) (sym (first-like (candidates folders path target))) ∙ both.0, both.1)

    lines-like : (path : List ℕ) (number : ℕ) (lines : List (List ℕ)) (visited now : List (List ℕ)) → Same visited → after_lines f folders path number lines visited ≡ Ok now →
        Alike (after_lines f folders path number lines visited) (after_lines g folders path number lines visited) now
    lines-like path number [] visited now same is = stays visited now same is
    lines-like path number (line ∷ lines) visited now same is =
        let t = tried (after_form f folders path number (include_of (directive_of line)) visited) (λ visited. after_lines f folders path (number + 1) lines visited) now is in
        let one = form-like path number (include_of (directive_of line)) visited t.x same t.first in
        let rest = lines-like path (number + 1) lines t.x now one.1 t.last in
        (ap (λ m. m >>= λ visited. after_lines g folders path (number + 1) lines visited) one.0 ∙ rest.0, rest.1)

    first_file-like : (paths visited now : List (List ℕ)) → AllByRecursion Plain paths → Same visited → after_first f folders paths visited ≡ Ok now → Alike (after_first f folders paths visited) (after_first g folders paths visited) now
    first_file-like [] visited now among same is = stays visited now same is
    first_file-like (path ∷ others) visited now among same is =
        let all = lines-like path 1 (lines_of (bytes_at f path)) visited now same is in
        (ap (λ file. after_lines g folders path 1 (lines_of (unwrap_or file [])) visited) (sym among.0.0) ∙ all.0, all.1)

    gathered-like : (more place : ℕ) (visited now : List (List ℕ)) → Same visited → gathered f folders more place visited ≡ Ok now → Alike (gathered f folders more place visited) (gathered g folders more place visited) now
    gathered-like zero place visited now same is = stays visited now same is
    gathered-like (suc more) place visited now same is =
        let t = tried (after_first f folders (drop place visited) visited) (λ visited. gathered f folders more (place + 1) visited) now is in
        let one = first_file-like (drop place visited) visited t.x (plain-drop place visited same.0) same t.first in
        let rest = gathered-like more (place + 1) t.x now one.1 t.last in
        (ap (λ m. m >>= λ visited. gathered g folders more (place + 1) visited) one.0 ∙ rest.0, rest.1)

    -- what is visited is visited in the other tree too, and each of the files is the same and isn't refused
    scan-like : (source : List ℕ) (now : List (List ℕ)) → is_path source ≡ true → scan_of f folders source ≡ Ok now → Alike (scan_of f folders source) (scan_of g folders source) now
    unfolding scan_of
    scan-like source now normal is =
        let t = tried (visit_file f source []) (λ visited. gathered f folders max_files 0 visited) now is in
        let one = visit_file-like source [] t.x normal (tt, omega arith, distinct-none) t.first in
        let rest = gathered-like max_files 0 t.x now one.1 t.last in
        (ap (λ m. m >>= λ visited. gathered g folders max_files 0 visited) one.0 ∙ rest.0, rest.1)

    -- what is known of scanned paths
    pub record Scanned (source : List ℕ) (paths : List (List ℕ)) : Type 0 where
      pub visited : List (List ℕ)
      pub visits : scan_of f folders source ≡ Ok visited
      pub order : IsInOrder visited paths
      pub same : scanned_paths g folders source ≡ Ok paths
      pub plain : AllByRecursion Plain paths
      pub few : length paths ≤ max_files

    pub scanned-like : (source : List ℕ) (paths : List (List ℕ)) → is_path source ≡ true → scanned_paths f folders source ≡ Ok paths → Scanned source paths
    scanned-like source paths normal is =
        let t = tried (scan_of f folders source) (λ visited. Ok (sorted_paths visited)) paths is in
        let both = scan-like source t.x normal t.first in
        let sorted : sorted_paths t.x ≡ paths = ap (ok_or []) t.last in
        let order : IsInOrder t.x paths = subst (IsInOrder t.x) sorted (record { same = sorted_paths-same t.x; rising = sorted_paths-rise t.x both.1.2 }) in
        record {
          visited = t.x;
          visits = t.first;
          order = order;
          same = ap (λ m. m >>= λ visited. Ok (sorted_paths visited)) both.0 ∙ t.last;
          plain = all-among Plain paths (λ path among. of-among Plain t.x both.1.0 path (sym (order.same path) ∙ among));
          few = subst (λ (paths : List (List ℕ)). length paths ≤ 4096) sorted (let long = length-sorted_paths t.x in let few = both.1.1 in omega (arith, long, few));
        }
