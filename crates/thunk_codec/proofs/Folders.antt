-- Folders stand as they are spelled, and a path is its folder and its last component.
use Rattle.std.proofs.Common.{◌≡◌, ℕ, suc, ◌+◌, ◌-◌, ◌<◌, ◌≤◌, true, false, not, leb, List, [], ◌∷◌, ◌++◌, length, reverse, take, drop, get_or, length-append, Option, Some, None, refl, sym, ap, subst, ◌∙◌, arith, append_assoc, inl, inr}
use Rattle.std.specs.Prelude.{codes, bytes_eq, unwrap_or}
use Rattle.std.specs.List.{list_all, join_with_byte, before_last, after_last, last_or, suffix_len}
use Rattle.std.specs.Option.{option_map}
use Rattle.std.proofs.lemmas.List.{reverse-reverse, length-take, take_rest, get_or-append_right, get_or_at, drop_at}
use Rattle.std.proofs.lemmas.List.Sums.{suffix_len_is}
use Rattle.std.proofs.lemmas.Grind.{reverse_onto}
use Rattle.std.proofs.lemmas.Bool.{and_parts, not_from_false, true≢false, ne_eqb, le-leb, leb-true, leb-false, cases_Bool}
use Rattle.std.proofs.lemmas.Option.{same_Some}
use Rattle.text_lines.specs.Maybe.{◌>>◌, bind_some, test_some}
use Rattle.thunk_codec.specs.Components.{is_plain, is_component, with_component}
use Rattle.thunk_codec.specs.Path.{is_slash, pieces_of, joined, after_pieces, components_of, path_of, is_path, max_path}
use Rattle.thunk_codec.specs.Folder.{folder_text, folder_of, is_folder, parent_of, last_of, joined_from}
use Rattle.thunk_codec.proofs.Paths.{components_good, component_plain, components_plain, pieces_of-join, first_byte, joined_again, bytes_eq-not, bytes_eq-self, same_path, path_of-is_path, joined-cons, joined_before, plain_at, reversed_components}

-- ---- folders

root_components : components_of (codes ".") ≡ Some []
unfolding components_of after_pieces
root_components = refl

root_again : folder_of (codes ".") ≡ Some (codes ".")
unfolding folder_of
root_again = rw root_components refl

-- the folder of components stands
pub folder_stands : (components : List (List ℕ)) (path : List ℕ) → joined components ≡ path → list_all is_component components ≡ true → length path ≤ 1024
    → folder_of (folder_text path) ≡ Some (folder_text path)
unfolding folder_of
folder_stands components [] e good short = root_again
folder_stands components (byte ∷ path) e good short =
    let some : joined components ≡ [] → ⊥ = λ empty. let x : byte ∷ path ≡ [] = sym e ∙ empty in absurd cc in
    let again : components_of (byte ∷ path) ≡ Some components = ap components_of (sym e) ∙ joined_again components (reverse components) refl good some in
    let fits : leb (length (byte ∷ path)) max_path ≡ true = le-leb _ _ short in
    rw (again, e, fits) refl

pub folder_again : (text folder : List ℕ) → folder_of text ≡ Some folder → folder_of folder ≡ Some folder
unfolding folder_of
folder_again text folder e =
    let a = bind_some (components_of text) (λ components. leb (length (joined components)) max_path >> Some (folder_text (joined components))) folder e in
    let b = test_some (leb (length (joined a.0)) max_path) (Some (folder_text (joined a.0))) folder a.2 in
    subst (λ (v : List ℕ). folder_of v ≡ Some v) (same_Some _ folder b.1) (folder_stands a.0 (joined a.0) refl (components_good text a.0 a.1) (leb-true _ _ b.0))

stands_is_folder : (folder : List ℕ) → folder_of folder ≡ Some folder → is_folder folder ≡ true
unfolding is_folder
stands_is_folder folder e = rw e (bytes_eq-self folder)

pub folder_is_folder : (text folder : List ℕ) → folder_of text ≡ Some folder → is_folder folder ≡ true
folder_is_folder text folder e = stands_is_folder folder (folder_again text folder e)

-- what is a folder is its own folder
pub folder_of-is_folder : (folder : List ℕ) → is_folder folder ≡ true → folder_of folder ≡ Some folder
unfolding is_folder
folder_of-is_folder folder h = same_path folder (folder_of folder) h

-- what is read of a text is a folder, where it isn't too long
read_folder_of : (text path : List ℕ) (components : Option (List (List ℕ))) → components ≡ components_of text → Some path ≡ option_map joined components → length path ≤ 1024
    → is_folder (folder_text path) ≡ true
read_folder_of text path None is e short = absurd cc
read_folder_of text path (Some components) is e short =
    stands_is_folder (folder_text path) (folder_stands components path (sym (same_Some path (joined components) e)) (components_good text components (sym is)) short)

pub read_folder : (text path : List ℕ) → Some path ≡ option_map joined (components_of text) → length path ≤ 1024 → is_folder (folder_text path) ≡ true
read_folder text path e short = read_folder_of text path (components_of text) refl e short

-- ---- the last slash

-- from an index on no byte is a slash
pub record NoSlashFrom (text : List ℕ) (start : ℕ) : Type 0 where
  pub within : start ≤ length text
  pub none : (k : ℕ) → start ≤ k → k < length text → get_or text k 0 ≡ 47 → ⊥

pub no_slash_behind : (text : List ℕ) → NoSlashFrom text (length text)
no_slash_behind text = record { within = omega arith; none = λ k low high e. omega (arith, low, high) }

pub after_last_at : (text : List ℕ) (start : ℕ) → NoSlashFrom text start → (0 < start → get_or text (start - 1) 0 ≡ 47) → after_last is_slash text ≡ drop start text
after_last_at text start h at =
    let len : suffix_len (λ x. not (is_slash x)) text ≡ length text - start
    = suffix_len_is (λ x. not (is_slash x)) text start 0 h.within (λ k low high. not_from_false _ (ne_eqb _ _ (h.none k low high))) (λ some. ap (λ (b : ℕ). not (is_slash b)) (at some)) in
    ap (λ (n : ℕ). drop n text) (let within = h.within in let n : length text - suffix_len (λ x. not (is_slash x)) text ≡ start = omega (arith, len, within) in n)

earlier : (text : List ℕ) (start k : ℕ) → (get_or text (start - 1) 0 ≡ 47 → ⊥) → NoSlashFrom text start → start - 1 ≤ k → k < length text → get_or text k 0 ≡ 47 → ⊥
earlier text start k other h low high e =
    elim (cases_Bool (leb start k)) [
      | inl behind ↦ h.none k (leb-true _ _ behind) high e
      | inr before ↦ other (subst (λ (n : ℕ). get_or text n 0 ≡ 47) (let less = leb-false _ _ before in let n : k ≡ start - 1 = omega (arith, low, less) in n) e)
    ]

pub no_slash_before : (text : List ℕ) (start : ℕ) → 0 < start → (get_or text (start - 1) 0 ≡ 47 → ⊥) → NoSlashFrom text start → NoSlashFrom text (start - 1)
no_slash_before text start some other h = record {
  within = let within = h.within in omega (arith, within);
  none = λ k low high e. earlier text start k other h low high e;
}

pub after_last_none : (text : List ℕ) (start : ℕ) → start ≡ 0 → NoSlashFrom text start → after_last is_slash text ≡ text
after_last_none text start e h = after_last_at text start h (λ some. absurd (omega (arith, some, e))) ∙ ap (λ (n : ℕ). drop n text) e

pub rest_from : (text : List ℕ) (start : ℕ) → take (length text - start) (drop start text) ≡ drop start text
rest_from text start = take_rest text start

behind_at : (path last : List ℕ) (k : ℕ) → length path + 1 ≤ k → get_or (path ++ 47 ∷ last) k 0 ≡ get_or last (k - length path - 1) 0
behind_at path last k low =
    get_or-append_right path (47 ∷ last) (length path) k 0 refl (omega (arith, low)) ∙ ap (λ (n : ℕ). get_or (47 ∷ last) n 0) (let n : k - length path ≡ suc (k - length path - 1) = omega (arith, low) in n)

plain_no_slash : (piece : List ℕ) (k : ℕ) → is_plain piece ≡ true → k < length piece → get_or piece k 0 ≡ 47 → ⊥
plain_no_slash piece k h lt e = true≢false (sym (ap is_slash e) ∙ plain_at piece k h lt)

last_behind : (path last : List ℕ) → is_plain last ≡ true → NoSlashFrom (path ++ 47 ∷ last) (length path + 1)
last_behind path last h =
    let whole : length (path ++ 47 ∷ last) ≡ length path + (1 + length last) = length-append path (47 ∷ last) ∙ omega arith in
    record {
      within = omega (arith, whole);
      none = λ k low high e. plain_no_slash last (k - length path - 1) h (omega (arith, whole, low, high)) (sym (behind_at path last k low) ∙ e);
    }

after_last_more : (path last : List ℕ) → is_plain last ≡ true → after_last is_slash (path ++ 47 ∷ last) ≡ last
after_last_more path last h =
    after_last_at (path ++ 47 ∷ last) (length path + 1) (last_behind path last h)
    (λ some. ap (λ (n : ℕ). get_or (path ++ 47 ∷ last) n 0) (let n : length path + 1 - 1 ≡ length path = omega arith in n) ∙ get_or_at path 47 last 0 (length path) refl)
    ∙ ap (drop (length path + 1)) (sym (append_assoc path (47 ∷ []) last)) ∙ drop_at (path ++ 47 ∷ []) last (length path + 1) (length-append path (47 ∷ []))

after_last_plain : (last : List ℕ) → is_plain last ≡ true → after_last is_slash last ≡ last
after_last_plain last h =
    after_last_at last 0 (record { within = omega arith; none = λ k low high e. plain_no_slash last k h high e }) (λ some. absurd (omega (arith, some)))

after_last_component : (path last : List ℕ) → is_plain last ≡ true → after_last is_slash (with_component path last) ≡ last
after_last_component [] last h = after_last_plain last h
after_last_component (byte ∷ path) last h = after_last_more (byte ∷ path) last h

-- ---- the parts of a path

-- a normal path, by its components
pub record IsJoined (path : List ℕ) : Type 0 where
  pub last : List ℕ
  pub before : List (List ℕ)
  pub good : list_all is_component (last ∷ before) ≡ true
  pub path_is : path ≡ joined (last ∷ before)
  pub short : length path ≤ 1024

joined_by : (path : List ℕ) (components : List (List ℕ)) → list_all is_component components ≡ true → joined components ≡ path → (joined components ≡ [] → ⊥) → length path ≤ 1024 → IsJoined path
joined_by path [] good e some short = absurd (some refl)
joined_by path (last ∷ before) good e some short = record { last = last; before = before; good = good; path_is = sym e; short = short }

pub path_parts : (path : List ℕ) → is_path path ≡ true → IsJoined path
unfolding path_of
path_parts path h =
    let e = path_of-is_path path h in
    let a = bind_some (components_of path) (λ components. not (bytes_eq (joined components) []) >> (leb (length (joined components)) max_path >> Some (joined components))) path e in
    let b = test_some (not (bytes_eq (joined a.0) [])) (leb (length (joined a.0)) max_path >> Some (joined a.0)) path a.2 in
    let c = test_some (leb (length (joined a.0)) max_path) (Some (joined a.0)) path b.1 in
    let same = same_Some (joined a.0) path c.1 in
    joined_by path a.0 (components_good path a.0 a.1) same (bytes_eq-not (joined a.0) [] b.0) (subst (λ (v : List ℕ). length v ≤ 1024) same (leb-true _ _ c.0))

cut_again : (pieces : List (List ℕ)) → list_all is_plain pieces ≡ true → (pieces ≡ [] → ⊥) → pieces_of (join_with_byte 47 pieces) ≡ pieces
cut_again [] h some = absurd (some refl)
cut_again (first ∷ others) h some = pieces_of-join first others h

reversed_some : (last : List ℕ) (before : List (List ℕ)) → reverse (last ∷ before) ≡ [] → ⊥
reversed_some last before e = let x : last ∷ before ≡ [] = sym (reverse-reverse (last ∷ before)) ∙ ap reverse e in absurd cc

pieces_back : (path : List ℕ) (j : IsJoined path) → pieces_of path ≡ reverse (j.last ∷ j.before)
pieces_back path j = ap pieces_of j.path_is ∙ cut_again (reverse (j.last ∷ j.before)) (components_plain (reverse (j.last ∷ j.before)) (reversed_components (j.last ∷ j.before) j.good)) (reversed_some j.last j.before)

pub parent_is : (path : List ℕ) (j : IsJoined path) → parent_of path ≡ folder_text (joined j.before)
unfolding parent_of
parent_is path j =
    ap (λ (v : List (List ℕ)). folder_text (joined (drop 1 (reverse v)))) (pieces_back path j)
    ∙ ap (λ (v : List (List ℕ)). folder_text (joined (drop 1 v))) (reverse-reverse (j.last ∷ j.before))

last_or-append : (o : Option (List ℕ)) (pieces : List (List ℕ)) (last : List ℕ) → last_or o (pieces ++ last ∷ []) ≡ Some last
last_or-append o [] last = refl
last_or-append o (piece ∷ pieces) last = last_or-append (Some piece) pieces last

pub last_is : (path : List ℕ) (j : IsJoined path) → last_of path ≡ j.last
unfolding last_of
last_is path j =
    ap (λ (v : List (List ℕ)). unwrap_or (last_or None v) []) (pieces_back path j ∙ reverse_onto j.before j.last [])
    ∙ ap (λ (v : Option (List ℕ)). unwrap_or v []) (last_or-append None (reverse j.before) j.last)

pub with_last : (path : List ℕ) (j : IsJoined path) → path ≡ with_component (joined j.before) j.last
with_last path j = j.path_is ∙ joined-cons j.last j.before (and_parts (is_component j.last) (list_all is_component j.before) j.good).1

last_plain : (path : List ℕ) (j : IsJoined path) → is_plain j.last ≡ true
last_plain path j = component_plain j.last (and_parts (is_component j.last) (list_all is_component j.before) j.good).0

-- the last component comes after the last slash
pub last_by_slash : (path : List ℕ) → is_path path ≡ true → after_last is_slash path ≡ last_of path
last_by_slash path h =
    let j = path_parts path h in
    ap (after_last is_slash) (with_last path j) ∙ after_last_component (joined j.before) j.last (last_plain path j) ∙ sym (last_is path j)

before_is : (path : List ℕ) (j : IsJoined path) → before_last is_slash path ≡ joined j.before
before_is path j = ap (before_last is_slash) j.path_is ∙ joined_before j.last j.before j.good

-- the folder is what stands before it
pub parent_by_slash : (path : List ℕ) → is_path path ≡ true → folder_text (before_last is_slash path) ≡ parent_of path
parent_by_slash path h = let j = path_parts path h in ap folder_text (before_is path j) ∙ sym (parent_is path j)

pub parent_is_folder : (path : List ℕ) → is_path path ≡ true → is_folder (folder_text (before_last is_slash path)) ≡ true
parent_is_folder path h =
    let j = path_parts path h in
    let short : length (before_last is_slash path) ≤ 1024 = let fits = j.short in omega (arith, length-take (length path - suffix_len (λ x. not (is_slash x)) path - 1) path, fits) in
    stands_is_folder _ (folder_stands j.before (before_last is_slash path) (sym (before_is path j)) (and_parts (is_component j.last) (list_all is_component j.before) j.good).1 short)

-- ---- a path seen from its folder

-- from the root a text has its own path
root_prefix : (text : List ℕ) → is_slash (get_or text 0 0) ≡ false → components_of (46 ∷ 47 ∷ text) ≡ components_of text
unfolding components_of after_pieces
root_prefix text h = rw h refl

pub root_path : (text : List ℕ) → is_slash (get_or text 0 0) ≡ false → path_of (46 ∷ 47 ∷ text) ≡ path_of text
unfolding path_of
root_path text h = rw (root_prefix text h) refl

seen_from : (before last path : List ℕ) → path ≡ with_component before last → is_path path ≡ true → is_slash (get_or last 0 0) ≡ false → path_of (folder_text before ++ 47 ∷ last) ≡ Some path
seen_from [] last path e h start = root_path last start ∙ ap path_of (sym e) ∙ path_of-is_path path h
seen_from (byte ∷ before) last path e h start = ap path_of (sym e) ∙ path_of-is_path path h

-- a path is its folder joined with its last component
pub path_joined : (path : List ℕ) → is_path path ≡ true → joined_from (parent_of path) (last_of path) ≡ Some path
unfolding joined_from
path_joined path h =
    let j = path_parts path h in
    let start = first_byte j.last [] (and_parts (is_component j.last) (list_all is_component j.before) j.good).0 in
    rw (parent_is path j, last_is path j, start) (seen_from (joined j.before) j.last path (with_last path j) h start)
