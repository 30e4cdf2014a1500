-- What is read from the front of some bytes stands there, and what stands there is read.
use Rattle.std.proofs.Common.{◌≡◌, ℕ, zero, suc, ◌+◌, ◌^◌, ◌<◌, ◌≤◌, true, leb, List, [], ◌∷◌, ◌++◌, length, take, drop, Option, Some, refl, sym, ap, subst, ◌∙◌, append_assoc, arith, inl, inr}
use Rattle.std.specs.Int.{w32, w64, from_be_bytes}
use Rattle.std.specs.List.{flat_map, AllByRecursion}
use Rattle.std.proofs.lemmas.Bool.{cases_lt, leb-true, le-leb}
use Rattle.std.proofs.lemmas.List.{take_at, drop_at, take-append-drop, length-append, length-take, get_or-drop, get_or-take, get_or_past}
use Rattle.std.proofs.lemmas.List.Concat.{flat_map-cons}
use Rattle.std.proofs.lemmas.Nat.{be_bytes_4, be_bytes_8, from_be_bytes-to_be_bytes_4, from_be_bytes-to_be_bytes_8}
use Rattle.std.proofs.lemmas.Option.{same_Some}
use Rattle.text_lines.specs.Maybe.{◌>>=◌, ◌>>◌, bind_some, test_some}
use Rattle.thunk_codec.specs.Job.{encoded_count, encoded_string}
use Rattle.thunk_codec.specs.Path.{is_path}
use Rattle.job_wire.specs.Frame.{IsBytes, lease_number}
use Rattle.job_wire.specs.Reading.{count_at, lease_at, string_at, path_at, pair_at, things_at, list_at}

pub IsBytes-drop : (n : ℕ) (bytes : List ℕ) → IsBytes bytes → IsBytes (drop n bytes)
IsBytes-drop n bytes h i = rw get_or-drop (h (n + i))

pub IsBytes-take : (n : ℕ) (bytes : List ℕ) → IsBytes bytes → IsBytes (take n bytes)
IsBytes-take n bytes h i =
    elim (cases_lt i n) [
      | inl lt ↦ rw (get_or-take n bytes i 0 lt) (h i)
      | inr le ↦ rw (get_or_past (take n bytes) i 0 (omega (arith, length-take n bytes))) (omega arith)
    ]

pub IsBytes-rest : (b : ℕ) (bytes : List ℕ) → IsBytes (b ∷ bytes) → IsBytes bytes
IsBytes-rest b bytes h i = h (suc i)

-- what a reader took from the front
pub record Takes (bytes text rest : List ℕ) : Type 0 where
  pub parts : bytes ≡ text ++ rest
  pub rest_fits : IsBytes rest

pub Takes-then : (a x b y c : List ℕ) → Takes a x b → Takes b y c → Takes a (x ++ y) c
Takes-then a x b y c p q = record { parts = p.parts ∙ ap (λ (t : List ℕ). x ++ t) q.parts ∙ sym (append_assoc x y c); rest_fits = q.rest_fits }

-- a reader of what is spelled so
pub record IsReader {A : Type 0} (at : List ℕ → Option (A × List ℕ)) (spelled : A → List ℕ) (P : A → Type 0) : Type 0 where
  pub takes : (bytes : List ℕ) (x : A × List ℕ) → IsBytes bytes → at bytes ≡ Some x → Takes bytes (spelled x.0) x.1 × P x.0
  pub again : (x : A) (rest : List ℕ) → P x → at (spelled x ++ rest) ≡ Some (x, rest)

-- ---- numbers

count_takes : (bytes : List ℕ) (x : ℕ × List ℕ) → IsBytes bytes → count_at bytes ≡ Some x → Takes bytes (encoded_count x.0) x.1 × (x.0 < 2 ^ 32)
unfolding count_at
count_takes bytes x fits e =
    let g = test_some (leb 4 (length bytes)) (Some (from_be_bytes w32 (take 4 bytes), drop 4 bytes)) x e in
    let long : 4 ≤ length bytes = leb-true _ _ g.0 in
    let front_fits = IsBytes-take 4 bytes fits in
    let back : encoded_count (from_be_bytes w32 (take 4 bytes)) ≡ take 4 bytes = be_bytes_4 (take 4 bytes) _ (omega (arith, length-take 4 bytes)) front_fits refl in
    let below : from_be_bytes w32 (take 4 bytes) < 2 ^ 32 = omega (arith, front_fits 0, front_fits 1, front_fits 2, front_fits 3) in
    let parts : bytes ≡ encoded_count (from_be_bytes w32 (take 4 bytes)) ++ drop 4 bytes = sym (take-append-drop 4 bytes) ∙ ap (λ (v : List ℕ). v ++ drop 4 bytes) (sym back) in
    subst (λ (v : ℕ × List ℕ). Takes bytes (encoded_count v.0) v.1 × (v.0 < 2 ^ 32)) (same_Some _ x g.1) (record { parts = parts; rest_fits = IsBytes-drop 4 bytes fits }, below)

count_again : (n : ℕ) (rest : List ℕ) → n < 2 ^ 32 → count_at (encoded_count n ++ rest) ≡ Some (n, rest)
unfolding count_at
count_again n rest lt =
    let long : leb 4 (length (encoded_count n ++ rest)) ≡ true = le-leb _ _ (omega (arith, length-append (encoded_count n) rest)) in
    rw long (ap (λ (k : ℕ). Some (k, rest)) (from_be_bytes-to_be_bytes_4 n lt))

pub count_reader : IsReader count_at encoded_count (λ n. n < 2 ^ 32)
count_reader = record { takes = count_takes; again = count_again }

lease_takes : (bytes : List ℕ) (x : ℕ × List ℕ) → IsBytes bytes → lease_at bytes ≡ Some x → Takes bytes (lease_number x.0) x.1 × (x.0 < 2 ^ 64)
unfolding lease_at
lease_takes bytes x fits e =
    let g = test_some (leb 8 (length bytes)) (Some (from_be_bytes w64 (take 8 bytes), drop 8 bytes)) x e in
    let long : 8 ≤ length bytes = leb-true _ _ g.0 in
    let front_fits = IsBytes-take 8 bytes fits in
    let back : lease_number (from_be_bytes w64 (take 8 bytes)) ≡ take 8 bytes = be_bytes_8 (take 8 bytes) _ (omega (arith, length-take 8 bytes)) front_fits refl in
    let below : from_be_bytes w64 (take 8 bytes) < 2 ^ 64 = omega (arith, front_fits 0, front_fits 1, front_fits 2, front_fits 3, front_fits 4, front_fits 5, front_fits 6, front_fits 7) in
    let parts : bytes ≡ lease_number (from_be_bytes w64 (take 8 bytes)) ++ drop 8 bytes = sym (take-append-drop 8 bytes) ∙ ap (λ (v : List ℕ). v ++ drop 8 bytes) (sym back) in
    subst (λ (v : ℕ × List ℕ). Takes bytes (lease_number v.0) v.1 × (v.0 < 2 ^ 64)) (same_Some _ x g.1) (record { parts = parts; rest_fits = IsBytes-drop 8 bytes fits }, below)

lease_again : (n : ℕ) (rest : List ℕ) → n < 2 ^ 64 → lease_at (lease_number n ++ rest) ≡ Some (n, rest)
unfolding lease_at
lease_again n rest lt =
    let long : leb 8 (length (lease_number n ++ rest)) ≡ true = le-leb _ _ (omega (arith, length-append (lease_number n) rest)) in
    rw long (ap (λ (k : ℕ). Some (k, rest)) (from_be_bytes-to_be_bytes_8 n lt))

pub lease_reader : IsReader lease_at lease_number (λ n. n < 2 ^ 64)
lease_reader = record { takes = lease_takes; again = lease_again }

-- ---- strings

-- short enough for a count
abbrev pub IsShort : List ℕ → Type 0
IsShort text = length text < 2 ^ 32

string_takes : (bytes : List ℕ) (x : List ℕ × List ℕ) → IsBytes bytes → string_at bytes ≡ Some x → Takes bytes (encoded_string x.0) x.1 × IsShort x.0
unfolding string_at
string_takes bytes x fits e =
    let b = bind_some (count_at bytes) (λ n. leb n.0 (length n.1) >> Some (take n.0 n.1, drop n.0 n.1)) x e in
    let n = b.0 in
    let t = count_takes bytes n fits b.1 in
    let g = test_some (leb n.0 (length n.1)) (Some (take n.0 n.1, drop n.0 n.1)) x b.2 in
    let long : n.0 ≤ length n.1 = leb-true _ _ g.0 in
    let len : length (take n.0 n.1) ≡ n.0 = omega (arith, length-take n.0 n.1) in
    let second : Takes n.1 (take n.0 n.1) (drop n.0 n.1) = record { parts = sym (take-append-drop n.0 n.1); rest_fits = IsBytes-drop n.0 n.1 t.0.rest_fits } in
    let both = Takes-then bytes (encoded_count n.0) n.1 (take n.0 n.1) (drop n.0 n.1) t.0 second in
    let whole : Takes bytes (encoded_string (take n.0 n.1)) (drop n.0 n.1) = subst (λ (k : ℕ). Takes bytes (encoded_count k ++ take n.0 n.1) (drop n.0 n.1)) (sym len) both in
    subst (λ (p : List ℕ × List ℕ). Takes bytes (encoded_string p.0) p.1 × IsShort p.0) (same_Some _ x g.1) (whole, omega (arith, t.1))

string_again : (text rest : List ℕ) → IsShort text → string_at (encoded_string text ++ rest) ≡ Some (text, rest)
unfolding string_at
string_again text rest lt =
    let long : leb (length text) (length (text ++ rest)) ≡ true = le-leb _ _ (omega (arith, length-append text rest)) in
    rw (count_again (length text) (text ++ rest) lt, long, take_at text rest (length text) refl, drop_at text rest (length text) refl) refl

pub string_reader : IsReader string_at encoded_string IsShort
string_reader = record { takes = string_takes; again = string_again }

-- short enough for a count, and a normal path
abbrev pub IsShortPath : List ℕ → Type 0
IsShortPath path = IsShort path × (is_path path ≡ true)

path_takes : (bytes : List ℕ) (x : List ℕ × List ℕ) → IsBytes bytes → path_at bytes ≡ Some x → Takes bytes (encoded_string x.0) x.1 × IsShortPath x.0
unfolding path_at
path_takes bytes x fits e =
    let b = bind_some (string_at bytes) (λ text. is_path text.0 >> Some text) x e in
    let g = test_some (is_path b.0.0) (Some b.0) x b.2 in
    let t = string_takes bytes b.0 fits b.1 in
    subst (λ (p : List ℕ × List ℕ). Takes bytes (encoded_string p.0) p.1 × IsShortPath p.0) (same_Some _ x g.1) (t.0, (t.1, g.0))

path_again : (text rest : List ℕ) → IsShortPath text → path_at (encoded_string text ++ rest) ≡ Some (text, rest)
unfolding path_at
path_again text rest h = rw (string_again text rest h.0, h.1) refl

pub path_reader : IsReader path_at encoded_string IsShortPath
path_reader = record { takes = path_takes; again = path_again }

-- ---- pairs and lists

module _ {A B : Type 0} {first_at : List ℕ → Option (A × List ℕ)} {first : A → List ℕ} {P : A → Type 0} {second_at : List ℕ → Option (B × List ℕ)} {second : B → List ℕ} {Q : B → Type 0} (r : IsReader first_at first P) (s : IsReader second_at second Q) where
  pair_takes : (bytes : List ℕ) (x : (A × B) × List ℕ) → IsBytes bytes → pair_at first_at second_at bytes ≡ Some x → Takes bytes (first x.0.0 ++ second x.0.1) x.1 × (P x.0.0 × Q x.0.1)
  unfolding pair_at
  pair_takes bytes x fits e =
      let a = bind_some (first_at bytes) (λ one. second_at one.1 >>= λ two. Some ((one.0, two.0), two.1)) x e in
      let b = bind_some (second_at a.0.1) (λ two. Some ((a.0.0, two.0), two.1)) x a.2 in
      let t = r.takes bytes a.0 fits a.1 in
      let u = s.takes a.0.1 b.0 t.0.rest_fits b.1 in
      subst (λ (v : (A × B) × List ℕ). Takes bytes (first v.0.0 ++ second v.0.1) v.1 × (P v.0.0 × Q v.0.1)) (same_Some _ x b.2) (Takes-then bytes (first a.0.0) a.0.1 (second b.0.0) b.0.1 t.0 u.0, (t.1, u.1))

  pair_again : (x : A × B) (rest : List ℕ) → P x.0 × Q x.1 → pair_at first_at second_at ((first x.0 ++ second x.1) ++ rest) ≡ Some (x, rest)
  unfolding pair_at
  pair_again x rest h =
      ap (pair_at first_at second_at) (append_assoc (first x.0) (second x.1) rest)
      ∙ rw (r.again x.0 (second x.1 ++ rest) h.0, s.again x.1 rest h.1) refl

  pub pair_reader : IsReader (pair_at first_at second_at) (λ x. first x.0 ++ second x.1) (λ x. P x.0 × Q x.1)
  pair_reader = record { takes = pair_takes; again = pair_again }

module _ {A : Type 0} {at : List ℕ → Option (A × List ℕ)} {spelled : A → List ℕ} {P : A → Type 0} (r : IsReader at spelled P) where
  things_take : (n : ℕ) (bytes : List ℕ) (x : List A × List ℕ) → IsBytes bytes → things_at at n bytes ≡ Some x → Takes bytes (flat_map spelled x.0) x.1 × (length x.0 ≡ n) × AllByRecursion P x.0
  unfolding things_at
  things_take zero bytes x fits e =
      subst (λ (y : List A × List ℕ). Takes bytes (flat_map spelled y.0) y.1 × (length y.0 ≡ 0) × AllByRecursion P y.0) (same_Some _ x e) (record { parts = refl; rest_fits = fits }, refl, tt)
  things_take (suc n) bytes x fits e =
      let a = bind_some (at bytes) (λ first. things_at at n first.1 >>= λ others. Some (first.0 ∷ others.0, others.1)) x e in
      let b = bind_some (things_at at n a.0.1) (λ others. Some (a.0.0 ∷ others.0, others.1)) x a.2 in
      let first = r.takes bytes a.0 fits a.1 in
      let second = things_take n a.0.1 b.0 first.0.rest_fits b.1 in
      let both = Takes-then bytes (spelled a.0.0) a.0.1 (flat_map spelled b.0.0) b.0.1 first.0 second.0 in
      subst (λ (y : List A × List ℕ). Takes bytes (flat_map spelled y.0) y.1 × (length y.0 ≡ suc n) × AllByRecursion P y.0) (same_Some _ x b.2) (rw flat_map-cons both, ap suc second.1, (first.1, second.2))

  things_again : (xs : List A) (rest : List ℕ) → AllByRecursion P xs → things_at at (length xs) (flat_map spelled xs ++ rest) ≡ Some (xs, rest)
  unfolding things_at
  things_again [] rest fits = refl
  things_again (x ∷ xs) rest fits =
      let regrouped : flat_map spelled (x ∷ xs) ++ rest ≡ spelled x ++ (flat_map spelled xs ++ rest) = ap (λ (v : List ℕ). v ++ rest) (flat_map-cons spelled x xs) ∙ append_assoc (spelled x) (flat_map spelled xs) rest in
      ap (things_at at (suc (length xs))) regrouped ∙ rw (r.again x (flat_map spelled xs ++ rest) fits.0, things_again xs rest fits.1) refl

  list_takes : (bytes : List ℕ) (x : List A × List ℕ) → IsBytes bytes → list_at at bytes ≡ Some x → Takes bytes (encoded_count (length x.0) ++ flat_map spelled x.0) x.1 × ((length x.0 < 2 ^ 32) × AllByRecursion P x.0)
  unfolding list_at
  list_takes bytes x fits e =
      let a = bind_some (count_at bytes) (λ n. things_at at n.0 n.1) x e in
      let t = count_takes bytes a.0 fits a.1 in
      let u = things_take a.0.0 a.0.1 x t.0.rest_fits a.2 in
      let both = Takes-then bytes (encoded_count a.0.0) a.0.1 (flat_map spelled x.0) x.1 t.0 u.0 in
      (subst (λ (k : ℕ). Takes bytes (encoded_count k ++ flat_map spelled x.0) x.1) (sym u.1) both, (omega (arith, t.1, u.1), u.2))

  list_again : (xs : List A) (rest : List ℕ) → (length xs < 2 ^ 32) × AllByRecursion P xs → list_at at ((encoded_count (length xs) ++ flat_map spelled xs) ++ rest) ≡ Some (xs, rest)
  unfolding list_at
  list_again xs rest h =
      ap (list_at at) (append_assoc (encoded_count (length xs)) (flat_map spelled xs) rest)
      ∙ rw (count_again (length xs) (flat_map spelled xs ++ rest) h.0) (things_again xs rest h.1)

  pub list_reader : IsReader (list_at at) (λ xs. encoded_count (length xs) ++ flat_map spelled xs) (λ xs. (length xs < 2 ^ 32) × AllByRecursion P xs)
  list_reader = record { takes = list_takes; again = list_again }
