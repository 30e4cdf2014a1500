-- Files that are visited: behind those before, few, all there, and in each closed set.
use Rattle.std.proofs.Common.{◌≡◌, ◌≤◌, ◌<◌, ℕ, List, [], ◌∷◌, ◌++◌, Bool, true, false, ◌||◌, Option, Some, None, Ok, Err, IsTrue, length, refl, sym, ap, subst, ◌∙◌, arith, append_assoc, inl, inr, append-nil, ltb-true}
use Rattle.std.specs.Prelude.{◌⊎◌, nat_lt, nat_le, bytes_eq, if◌then◌else◌}
use Rattle.std.specs.Option.{is_some}
use Rattle.std.proofs.lemmas.Bool.{or_cases, false≢true}
use Rattle.std.proofs.lemmas.List.{length_push}
use Rattle.std.proofs.lemmas.List.Folds.{list_any-append}
use Rattle.std.proofs.lemmas.Slice.Eq.{bytes_eq-Decides}
use Rattle.object_name.specs.Name.{max_size}
use Rattle.thunk_codec.proofs.PublicLaws.{bytes_eq-self}
use Rattle.thunk_codec.specs.Placeholder.{placeholder_of}
use Rattle.thunk_codec.specs.Files.{Files}
use Rattle.file_tree.specs.declared.refusal.FileRefusal.TheVariants as refusals
use Rattle.file_tree.specs.declared.tree.FileRead.TheVariants as reads
use Rattle.tool_text.specs.Trying.{◌>>=◌}
use Rattle.include_scan.specs.declared.fault.ScanFault.TheVariants.{TooMany}
use Rattle.text_lines.specs.Among.{is_among}
use Rattle.include_scan.specs.Scanned.{IsClosed}
use Rattle.include_scan.specs.Scanning.{Visiting, max_files, refusal_of, refusal_of_read, unless_refused, visit_file}

-- what holds of the files that were visited, where there is no refusal
abbrev pub HoldsOk : (List (List ℕ) → Type 0) → Visiting → Type 0
HoldsOk P (Ok now) = P now
HoldsOk P (Err fault) = Unit {0}

pub holds_map : {P Q : List (List ℕ) → Type 0} → (visiting : Visiting) → ((now : List (List ℕ)) → P now → Q now) → HoldsOk P visiting → HoldsOk Q visiting
holds_map (Ok now) f h = f now h
holds_map (Err fault) f h = tt

pub bind_holds : {P : List (List ℕ) → Type 0} (Q : List (List ℕ) → Type 0) → (visiting : Visiting) (next : List (List ℕ) → Visiting) → HoldsOk P visiting
    → ((now : List (List ℕ)) → P now → HoldsOk Q (next now)) → HoldsOk Q (visiting >>= next)
bind_holds Q (Ok now) next h f = f now h
bind_holds Q (Err fault) next h f = tt

-- by cases on a test
pub on_bool : (test : Bool) (P : Bool → Type 0) → (test ≡ true → P true) → (test ≡ false → P false) → P test
on_bool true P if_true _ = if_true refl
on_bool false P _ if_false = if_false refl

pub or_first : (a b : Bool) → a ≡ true → (a || b) ≡ true
or_first true b is = refl
or_first false b is = absurd (false≢true is)

pub or_second : (a b : Bool) → b ≡ true → (a || b) ≡ true
or_second true b is = refl
or_second false b is = is

pub among_left : (paths more : List (List ℕ)) (path : List ℕ) → IsTrue (is_among paths path) → IsTrue (is_among (paths ++ more) path)
among_left paths more path h = list_any-append (bytes_eq path) paths more ∙ or_first _ _ h

pub among_cases : (paths more : List (List ℕ)) (path : List ℕ) → IsTrue (is_among (paths ++ more) path) → IsTrue (is_among paths path) ⊎ IsTrue (is_among more path)
among_cases paths more path h = or_cases _ _ (sym (list_any-append (bytes_eq path) paths more) ∙ h)

pub among_one : (other path : List ℕ) → IsTrue (is_among (other ∷ []) path) → path ≡ other
among_one other path h = by_parts (or_cases (bytes_eq path other) false h) where
  by_parts : (bytes_eq path other ≡ true) ⊎ (false ≡ true) → path ≡ other
  by_parts (inl is) = (bytes_eq-Decides path other).0 is
  by_parts (inr is) = absurd (false≢true is)

pub among_last : (paths : List (List ℕ)) (path : List ℕ) → IsTrue (is_among (paths ++ path ∷ []) path)
among_last paths path = list_any-append (bytes_eq path) paths (path ∷ []) ∙ or_second _ _ (or_first _ _ (bytes_eq-self path))

module _ (files : Files) (folders : List (List ℕ)) (source : List ℕ) where
  -- some paths are all in a set
  abbrev pub AllIn : (List ℕ → Bool) → List (List ℕ) → Type 0
  AllIn set paths = (path : List ℕ) → IsTrue (is_among paths path) → IsTrue (set path)

  -- whether a file is there
  abbrev pub exists : List ℕ → Bool
  exists path = is_some (files path)

  -- more was visited
  pub record Onward (visited now : List (List ℕ)) : Type 0 where
    pub more : List (List ℕ)
    pub is : now ≡ visited ++ more
    pub few : length visited ≤ 4096 → length now ≤ 4096
    pub there : AllIn exists visited → AllIn exists now
    pub least : (other : List ℕ → Bool) → IsClosed files folders source other → AllIn other visited → AllIn other now

  pub none_visited : (visited : List (List ℕ)) → Onward visited visited
  none_visited visited = record { more = []; is = sym (append-nil visited); few = λ few. few; there = λ all. all; least = λ other closed all. all }

  pub later_visited : (visited now later : List (List ℕ)) → Onward visited now → Onward now later → Onward visited later
  later_visited visited now later first second = record {
    more = first.more ++ second.more;
    is = second.is ∙ (ap (λ paths. paths ++ second.more) first.is ∙ append_assoc visited first.more second.more);
    few = λ few. second.few (first.few few);
    there = λ all. second.there (first.there all);
    least = λ other closed all. second.least other closed (first.least other closed all);
  }

  pub still_visited : (visited now : List (List ℕ)) → Onward visited now → (path : List ℕ) → IsTrue (is_among visited path) → IsTrue (is_among now path)
  still_visited visited now onward path h = subst (λ paths. IsTrue (is_among paths path)) (sym onward.is) (among_left visited onward.more path h)

  -- a path that is in each closed set that has the files so far
  abbrev pub IsNeeded : List (List ℕ) → List ℕ → Type 0
  IsNeeded visited path = (other : List ℕ → Bool) → IsClosed files folders source other → AllIn other visited → IsTrue (other path)

  all_with : (set : List ℕ → Bool) (visited : List (List ℕ)) (path : List ℕ) → AllIn set visited → IsTrue (set path) → AllIn set (visited ++ path ∷ [])
  all_with set visited path all h other among = by_parts (among_cases visited (path ∷ []) other among) where
    by_parts : IsTrue (is_among visited other) ⊎ IsTrue (is_among (path ∷ []) other) → IsTrue (set other)
    by_parts (inl before) = all other before
    by_parts (inr last) = subst (λ path. IsTrue (set path)) (sym (among_one path other last)) h

  one_visited : (visited : List (List ℕ)) (path : List ℕ) → length visited < 4096 → IsTrue (exists path) → IsNeeded visited path → Onward visited (visited ++ path ∷ [])
  one_visited visited path room there needed = record {
    more = path ∷ [];
    is = refl;
    few = λ _. let long = length_push visited path in omega (arith, long, room);
    there = λ all. all_with exists visited path all there;
    least = λ other closed all. all_with other visited path all (needed other closed all);
  }

  refused_or : (P : List (List ℕ) → Type 0) (path : List ℕ) (file : Option (List ℕ)) (next : List (List ℕ)) → (is_some file ≡ true → P next)
      → HoldsOk P (unless_refused (refusal_of path file) next)
  refused_or P path None next h = tt
  refused_or P path (Some bytes) next h =
      on_bool (nat_le (length bytes) max_size) (λ test. HoldsOk P (unless_refused (refusal_of_read path (if test then reads.Bytes bytes else reads.TooLong)) next))
      (λ _. on_bool (is_some (placeholder_of bytes)) (λ test. HoldsOk P (unless_refused (if test then Some (refusals.Generated path) else None) next)) (λ _. tt) (λ _. h refl)) (λ _. tt)

  -- a file that is visited is among them
  abbrev pub VisitsFile : List ℕ → List (List ℕ) → List (List ℕ) → Type 0
  VisitsFile path visited now = Onward visited now × IsTrue (is_among now path)

  pub visit_file_goes : (path : List ℕ) (visited : List (List ℕ)) → IsNeeded visited path → HoldsOk (VisitsFile path visited) (visit_file files path visited)
  unfolding visit_file
  visit_file_goes path visited needed =
      let fresh : Visiting = unless_refused (refusal_of path (files path)) (visited ++ path ∷ []) in
      on_bool (is_among visited path) (λ test. HoldsOk (VisitsFile path visited) (if test then Ok visited else (if nat_lt (length visited) max_files then fresh else Err TooMany)))
      (λ among. (none_visited visited, among))
      (λ _. on_bool (nat_lt (length visited) max_files) (λ test. HoldsOk (VisitsFile path visited) (if test then fresh else Err TooMany))
      (λ room. refused_or (VisitsFile path visited) path (files path) (visited ++ path ∷ []) (λ there. (one_visited visited path (ltb-true (length visited) max_files room) there needed, among_last visited path)))
      (λ _. tt))
