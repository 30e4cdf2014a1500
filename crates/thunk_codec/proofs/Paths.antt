-- Normal paths are read as they stand.
use Rattle.std.proofs.Common.{◌≡◌, ℕ, suc, ◌+◌, ◌<◌, ◌≤◌, Bool, true, false, not, leb, ◌&&◌, ◌||◌, List, [], ◌∷◌, ◌++◌, ◌-◌, length, reverse, take, drop, get_or, length-append, Option, Some, None, refl, sym, ap, subst, ◌∙◌, arith, append_assoc, inl, inr}
use Rattle.std.specs.Prelude.{MatchOption, codes, bytes_eq}
use Rattle.std.specs.List.{list_all, join_with_byte, onto_first, All, AllByRecursion, before_last, suffix_len}
use Rattle.std.proofs.lemmas.List.{reverse-reverse, take-append-drop, drop_more, length-take, get_or-take, take_at, get_or-append_right, get_or_at, take_rest}
use Rattle.std.proofs.lemmas.List.Sums.{suffix_len_is}
use Rattle.std.proofs.lemmas.Grind.{reverse_onto}
use Rattle.std.proofs.lemmas.List.Elements.{All-from_recursion, All-from_get_or}
use Rattle.std.proofs.lemmas.List.Folds.{list_all-append}
use Rattle.std.proofs.lemmas.Bool.Decides.{not_from_Decides}
use mathlib.Core.List.{reverse_aux}
use Rattle.std.proofs.lemmas.Bool.{and_parts, and_from, or_parts, cases_Bool, not_from_false, not-true, ne_eqb, true≢false, false≢true, false_from_ne_true, le-leb}
use Rattle.std.proofs.lemmas.Option.{same_Some}
use Rattle.std.proofs.lemmas.Slice.Eq.{bytes_eq-Decides}
use Rattle.std.proofs.lemmas.List.Splits.{slice_split_at, slice_split_none}
use Rattle.std.specs.Option.{option_map}
use denote.Ref.{Bor}
use Rattle.text_lines.specs.Maybe.{◌>>=◌, ◌>>◌, bind_some, test_some}
use Rattle.thunk_codec.specs.Components.{is_plain_byte, is_plain, is_component, with_component}
use Rattle.thunk_codec.specs.Path.{is_slash, pieces_of, joined, without_last, after_piece, after_pieces, is_printable, components_of, path_of, is_path, is_same_path, max_path}

plain_onto : (byte : ℕ) (pieces : List (List ℕ)) → is_plain_byte byte ≡ true → list_all is_plain pieces ≡ true → list_all is_plain (onto_first byte pieces) ≡ true
plain_onto byte [] b h = and_from _ _ (and_from _ _ b refl) refl
plain_onto byte (piece ∷ pieces) b h =
    let parts = and_parts (is_plain piece) (list_all is_plain pieces) h in
    and_from _ _ (and_from _ _ b parts.0) parts.1

pub plain_pieces : (text : List ℕ) → list_all is_printable text ≡ true → list_all is_plain (pieces_of text) ≡ true
plain_pieces [] h = refl
plain_pieces (byte ∷ text) h =
    let parts = and_parts (is_printable byte) (list_all is_printable text) h in
    let others = plain_pieces text parts.1 in
    elim (cases_Bool (is_slash byte)) [
      | inl slash ↦ rw slash others
      | inr other ↦ rw other (plain_onto byte (pieces_of text) (and_from _ _ parts.0 (not_from_false _ other)) others)
    ]

-- a piece that is kept is a component
kept_component : (piece : List ℕ) → (bytes_eq piece [] || bytes_eq piece (codes ".")) ≡ false → bytes_eq piece (codes "..") ≡ false → is_plain piece ≡ true → is_component piece ≡ true
kept_component piece some other plain =
    let neither = or_parts (bytes_eq piece []) (bytes_eq piece (codes ".")) some in
    and_from _ _ (not_from_false _ neither.0) (and_from _ _ (not_from_false _ neither.1) (and_from _ _ (not_from_false _ other) plain))

without_last_component : (before next : List (List ℕ)) → list_all is_component before ≡ true → without_last before ≡ Some next → list_all is_component next ≡ true
without_last_component [] next h e = absurd cc
without_last_component (last ∷ before) next h e =
    subst (λ (v : List (List ℕ)). list_all is_component v ≡ true) (same_Some before next e) (and_parts (is_component last) (list_all is_component before) h).1

pub piece_components : (before next : List (List ℕ)) (piece : List ℕ) → list_all is_component before ≡ true → is_plain piece ≡ true → after_piece before piece ≡ Some next → list_all is_component next ≡ true
piece_components before next piece h plain e =
    elim (cases_Bool (bytes_eq piece [] || bytes_eq piece (codes "."))) [
      | inl drops ↦ subst (λ (v : List (List ℕ)). list_all is_component v ≡ true) (same_Some before next (rw drops at e)) h
      | inr stays ↦ elim (cases_Bool (bytes_eq piece (codes ".."))) [
        | inl climbs ↦ without_last_component before next h (rw (stays, climbs) at e)
        | inr adds ↦ subst (λ (v : List (List ℕ)). list_all is_component v ≡ true) (same_Some (piece ∷ before) next (rw (stays, adds) at e)) (and_from _ _ (kept_component piece stays adds plain) h)
      ]
    ]

pieces_components : (before next : List (List ℕ)) (pieces : List (List ℕ)) → list_all is_component before ≡ true → list_all is_plain pieces ≡ true → after_pieces before pieces ≡ Some next → list_all is_component next ≡ true
unfolding after_pieces
pieces_components before next [] h plain e = subst (λ (v : List (List ℕ)). list_all is_component v ≡ true) (same_Some before next e) h
pieces_components before next (piece ∷ pieces) h plain e =
    let parts = and_parts (is_plain piece) (list_all is_plain pieces) plain in
    let first = bind_some (after_piece before piece) (λ v. after_pieces v pieces) next e in
    pieces_components first.0 next pieces (piece_components before first.0 piece h parts.0 first.1) parts.1 first.2

-- the components of a text's normal form are components
pub components_good : (text : List ℕ) (components : List (List ℕ)) → components_of text ≡ Some components → list_all is_component components ≡ true
unfolding components_of
components_good text components e =
    let a = test_some (not (is_slash (get_or text 0 0))) (list_all is_printable text >> after_pieces [] (pieces_of text)) components e in
    let b = test_some (list_all is_printable text) (after_pieces [] (pieces_of text)) components a.1 in
    pieces_components [] components (pieces_of text) refl (plain_pieces text b.0) b.1

-- ---- components, joined and cut again

pub component_plain : (piece : List ℕ) → is_component piece ≡ true → is_plain piece ≡ true
component_plain piece h = (and_parts _ (is_plain piece) (and_parts _ (not (bytes_eq piece (codes "..")) && is_plain piece) (and_parts _ (not (bytes_eq piece (codes ".")) && (not (bytes_eq piece (codes "..")) && is_plain piece)) h).1).1).1

pub components_plain : (pieces : List (List ℕ)) → list_all is_component pieces ≡ true → list_all is_plain pieces ≡ true
components_plain [] h = refl
components_plain (piece ∷ pieces) h =
    let parts = and_parts (is_component piece) (list_all is_component pieces) h in
    and_from _ _ (component_plain piece parts.0) (components_plain pieces parts.1)

no_slash : (piece : List ℕ) → is_plain piece ≡ true → AllByRecursion (λ byte. is_slash byte ≡ false) piece
no_slash [] h = tt
no_slash (byte ∷ piece) h =
    let parts = and_parts (is_plain_byte byte) (is_plain piece) h in
    (not-true _ (and_parts (is_printable byte) (not (is_slash byte)) parts.0).1, no_slash piece parts.1)

no_slash_all : (piece : List ℕ) → is_plain piece ≡ true → All (λ byte. is_slash byte ≡ false) piece
no_slash_all piece h = All-from_recursion (λ byte. is_slash byte ≡ false) piece (no_slash piece h)

pub pieces_of-join : (first : List ℕ) (others : List (List ℕ)) → list_all is_plain (first ∷ others) ≡ true → pieces_of (join_with_byte 47 (first ∷ others)) ≡ first ∷ others
pieces_of-join first [] h = slice_split_none is_slash first (no_slash_all first (and_parts (is_plain first) true h).0)
pieces_of-join first (second ∷ others) h =
    let parts = and_parts (is_plain first) (list_all is_plain (second ∷ others)) h in
    slice_split_at is_slash first 47 (join_with_byte 47 (second ∷ others)) (no_slash_all first parts.0) refl ∙ ap (λ (v : List (List ℕ)). first ∷ v) (pieces_of-join second others parts.1)

-- a component is kept
pub after_piece-component : (before : List (List ℕ)) (piece : List ℕ) → is_component piece ≡ true → after_piece before piece ≡ Some (piece ∷ before)
after_piece-component before piece h =
    let a = and_parts (not (bytes_eq piece [])) (not (bytes_eq piece (codes ".")) && (not (bytes_eq piece (codes "..")) && is_plain piece)) h in
    let b = and_parts (not (bytes_eq piece (codes "."))) (not (bytes_eq piece (codes "..")) && is_plain piece) a.1 in
    let c = and_parts (not (bytes_eq piece (codes ".."))) (is_plain piece) b.1 in
    rw (not-true _ a.0, not-true _ b.0, not-true _ c.0) refl

after_pieces-components : (before pieces : List (List ℕ)) → list_all is_component pieces ≡ true → after_pieces before pieces ≡ Some (reverse_aux pieces before)
unfolding after_pieces
after_pieces-components before [] h = refl
after_pieces-components before (piece ∷ pieces) h =
    let parts = and_parts (is_component piece) (list_all is_component pieces) h in
    rw (after_piece-component before piece parts.0) (after_pieces-components (piece ∷ before) pieces parts.1)

list_all-reverse_aux : {X : Type 0} (p : X → Bool) (xs ys : List X) → list_all p xs ≡ true → list_all p ys ≡ true → list_all p (reverse_aux xs ys) ≡ true
list_all-reverse_aux p [] ys hx hy = hy
list_all-reverse_aux p (x ∷ xs) ys hx hy =
    let parts = and_parts (p x) (list_all p xs) hx in
    list_all-reverse_aux p xs (x ∷ ys) parts.1 (and_from _ _ parts.0 hy)

plain_printable : (piece : List ℕ) → is_plain piece ≡ true → list_all is_printable piece ≡ true
plain_printable [] h = refl
plain_printable (byte ∷ piece) h =
    let parts = and_parts (is_plain_byte byte) (is_plain piece) h in
    and_from _ _ (and_parts (is_printable byte) (not (is_slash byte)) parts.0).0 (plain_printable piece parts.1)

join_printable : (pieces : List (List ℕ)) → list_all is_plain pieces ≡ true → list_all is_printable (join_with_byte 47 pieces) ≡ true
join_printable [] h = refl
join_printable (first ∷ []) h = plain_printable first (and_parts (is_plain first) true h).0
join_printable (first ∷ second ∷ others) h =
    let parts = and_parts (is_plain first) (list_all is_plain (second ∷ others)) h in
    list_all-append is_printable first (47 ∷ join_with_byte 47 (second ∷ others)) ∙ and_from _ _ (plain_printable first parts.0) (join_printable (second ∷ others) parts.1)

-- components joined don't begin with a slash
pub first_byte : (first : List ℕ) (others : List (List ℕ)) → is_component first ≡ true → is_slash (get_or (join_with_byte 47 (first ∷ others)) 0 0) ≡ false
first_byte [] others h = absurd cc
first_byte (byte ∷ first) [] h = (no_slash (byte ∷ first) (component_plain (byte ∷ first) h)).0
first_byte (byte ∷ first) (second ∷ others) h = (no_slash (byte ∷ first) (component_plain (byte ∷ first) h)).0

-- the components of a path that is joined of components
join_again : (first : List ℕ) (others : List (List ℕ)) → list_all is_component (first ∷ others) ≡ true
    → components_of (join_with_byte 47 (first ∷ others)) ≡ Some (reverse (first ∷ others))
unfolding components_of
join_again first others h =
    let parts = and_parts (is_component first) (list_all is_component others) h in
    let plain = components_plain (first ∷ others) h in
    rw (first_byte first others parts.0, join_printable (first ∷ others) plain, pieces_of-join first others plain) (after_pieces-components [] (first ∷ others) h)

pub joined_again : (components pieces : List (List ℕ)) → reverse components ≡ pieces → list_all is_component components ≡ true → (join_with_byte 47 pieces ≡ [] → ⊥)
    → components_of (join_with_byte 47 pieces) ≡ Some components
joined_again components [] e h some = absurd (some refl)
joined_again components (first ∷ others) e h some =
    let good : list_all is_component (first ∷ others) ≡ true = subst (λ (v : List (List ℕ)). list_all is_component v ≡ true) e (list_all-reverse_aux is_component components [] h refl) in
    join_again first others good ∙ ap (λ (v : List (List ℕ)). Some (reverse v)) (sym e) ∙ ap (λ (v : List (List ℕ)). Some v) (reverse-reverse components)

pub bytes_eq-not : (xs ys : List ℕ) → not (bytes_eq xs ys) ≡ true → xs ≡ ys → ⊥
bytes_eq-not xs ys h = not_from_Decides (bytes_eq xs ys) (bytes_eq-Decides xs ys) (not-true _ h)

pub bytes_eq-self : (xs : List ℕ) → bytes_eq xs xs ≡ true
bytes_eq-self xs = (bytes_eq-Decides xs xs).1 refl

-- a canonical path is read as itself
pub path_again : (text path : List ℕ) → path_of text ≡ Some path → path_of path ≡ Some path
unfolding path_of
path_again text path e =
    let a = bind_some (components_of text) (λ components. not (bytes_eq (joined components) []) >> (leb (length (joined components)) max_path >> Some (joined components))) path e in
    let b = test_some (not (bytes_eq (joined a.0) [])) (leb (length (joined a.0)) max_path >> Some (joined a.0)) path a.2 in
    let c = test_some (leb (length (joined a.0)) max_path) (Some (joined a.0)) path b.1 in
    let again = joined_again a.0 (reverse a.0) refl (components_good text a.0 a.1) (bytes_eq-not (joined a.0) [] b.0) in
    let whole : path_of (joined a.0) ≡ Some (joined a.0) = rw (again, b.0, c.0) refl in
    subst (λ (v : List ℕ). path_of v ≡ Some v) (same_Some (joined a.0) path c.1) whole

pub path_is_path : (text path : List ℕ) → path_of text ≡ Some path → is_path path ≡ true
unfolding is_path
path_is_path text path e = rw (path_again text path e) (bytes_eq-self path)

pub same_path : (path : List ℕ) (found : Option (List ℕ)) → is_same_path path found ≡ true → found ≡ Some path
same_path path None h = absurd cc
same_path path (Some other) h = ap (λ (v : List ℕ). Some v) ((bytes_eq-Decides other path).0 h)

-- what is a path is its own normal path
pub path_of-is_path : (path : List ℕ) → is_path path ≡ true → path_of path ≡ Some path
unfolding is_path
path_of-is_path path h = same_path path (path_of path) h

-- ---- what reading a path does

-- the piece before the first slash
pub pieces_of-at : (text : List ℕ) (i : ℕ) → i < length text → get_or text i 0 ≡ 47 → ((k : ℕ) → k < i → get_or text k 0 ≡ 47 → ⊥) → pieces_of text ≡ take i text ∷ pieces_of (drop (i + 1) text)
pieces_of-at text i lt slash before =
    let cut : text ≡ take i text ++ 47 ∷ drop (i + 1) text = sym (take-append-drop i text) ∙ ap (λ (v : List ℕ). take i text ++ v) (drop_more text i 0 lt ∙ ap (λ (b : ℕ). b ∷ drop (i + 1) text) slash) in
    let none : All (λ byte. is_slash byte ≡ false) (take i text) = All-from_get_or (λ byte. is_slash byte ≡ false) (take i text) 0 (λ k h. let kl : k < i = omega (arith, h, length-take i text) in ne_eqb _ _ (λ e. before k kl (sym (get_or-take i text k 0 kl) ∙ e))) in
    ap pieces_of cut ∙ slice_split_at is_slash (take i text) 47 (drop (i + 1) text) none refl

-- a text without slashes is one piece
pub pieces_of-none : (text : List ℕ) → ((k : ℕ) → k < length text → get_or text k 0 ≡ 47 → ⊥) → pieces_of text ≡ text ∷ []
pieces_of-none text none = slice_split_none is_slash text (All-from_get_or (λ byte. is_slash byte ≡ false) text 0 (λ k h. ne_eqb _ _ (none k h)))

pub plain_at : (piece : List ℕ) (k : ℕ) → is_plain piece ≡ true → k < length piece → is_slash (get_or piece k 0) ≡ false
plain_at piece k h lt = no_slash_all piece h k 0 lt

-- what stands before the last slash of a path with one more component
before_last_more : (path last : List ℕ) → is_plain last ≡ true → before_last is_slash (path ++ 47 ∷ last) ≡ path
before_last_more path last h =
    let whole : length (path ++ 47 ∷ last) ≡ length path + (1 + length last) = length-append path (47 ∷ last) ∙ omega arith in
    let behind : (k : ℕ) → length path + 1 ≤ k → k < length (path ++ 47 ∷ last) → not (is_slash (get_or (path ++ 47 ∷ last) k 0)) ≡ true
    = λ k low high. not_from_false _ (ap is_slash (get_or-append_right path (47 ∷ last) (length path) k 0 refl (omega (arith, low)) ∙ ap (λ (n : ℕ). get_or (47 ∷ last) n 0) (let n : k - length path ≡ suc (k - length path - 1) = omega (arith, low) in n)) ∙ plain_at last (k - length path - 1) h (omega (arith, whole, low, high))) in
    let slash : 0 < length path + 1 → not (is_slash (get_or (path ++ 47 ∷ last) (length path + 1 - 1) 0)) ≡ false
    = λ _. ap (λ (n : ℕ). not (is_slash (get_or (path ++ 47 ∷ last) n 0))) (let n : length path + 1 - 1 ≡ length path = omega arith in n) ∙ ap (λ (b : ℕ). not (is_slash b)) (get_or_at path 47 last 0 (length path) refl) in
    let len = suffix_len_is (λ x. not (is_slash x)) (path ++ 47 ∷ last) (length path + 1) 0 (omega (arith, whole)) behind slash in
    take_at path (47 ∷ last) _ (omega (arith, whole, len))

before_last_plain : (last : List ℕ) → is_plain last ≡ true → before_last is_slash last ≡ []
before_last_plain last h =
    let len = suffix_len_is (λ x. not (is_slash x)) last 0 0 (omega arith) (λ k low high. not_from_false _ (plain_at last k h high)) (λ lt. absurd (omega (arith, lt))) in
    let n : length last - suffix_len (λ x. not (is_slash x)) last - 1 ≡ 0 = omega (arith, len) in
    rw n refl

before_last_component : (path last : List ℕ) → is_plain last ≡ true → before_last is_slash (with_component path last) ≡ path
before_last_component [] last h = before_last_plain last h
before_last_component (byte ∷ path) last h = before_last_more (byte ∷ path) last h

-- ---- one more component

with_component_some : (path piece : List ℕ) → (path ≡ [] → ⊥) → with_component path piece ≡ path ++ 47 ∷ piece
with_component_some [] piece some = absurd (some refl)
with_component_some (byte ∷ path) piece some = refl

join_some : (first : List ℕ) (others : List (List ℕ)) → is_component first ≡ true → join_with_byte 47 (first ∷ others) ≡ [] → ⊥
join_some [] others h e = absurd cc
join_some (byte ∷ first) [] h e = cc
join_some (byte ∷ first) (second ∷ others) h e = cc

join_push : (pieces : List (List ℕ)) (piece : List ℕ) → list_all is_component pieces ≡ true → join_with_byte 47 (pieces ++ piece ∷ []) ≡ with_component (join_with_byte 47 pieces) piece
join_push [] piece h = refl
join_push (first ∷ []) piece h = sym (with_component_some first piece (join_some first [] (and_parts (is_component first) true h).0))
join_push (first ∷ second ∷ others) piece h =
    let parts = and_parts (is_component first) (list_all is_component (second ∷ others)) h in
    let later = join_push (second ∷ others) piece parts.1 in
    let some = join_some second others (and_parts (is_component second) (list_all is_component others) parts.1).0 in
    ap (λ (v : List ℕ). first ++ 47 ∷ v) (later ∙ with_component_some (join_with_byte 47 (second ∷ others)) piece some)
    ∙ sym (append_assoc first (47 ∷ join_with_byte 47 (second ∷ others)) (47 ∷ piece))
    ∙ sym (with_component_some (first ++ 47 ∷ join_with_byte 47 (second ∷ others)) piece (join_some first (second ∷ others) parts.0))

pub reversed_components : (components : List (List ℕ)) → list_all is_component components ≡ true → list_all is_component (reverse components) ≡ true
reversed_components components h = list_all-reverse_aux is_component components [] h refl

pub joined-cons : (piece : List ℕ) (before : List (List ℕ)) → list_all is_component before ≡ true → joined (piece ∷ before) ≡ with_component (joined before) piece
joined-cons piece before h =
    ap (join_with_byte 47) (reverse_onto before piece []) ∙ join_push (reverse before) piece (reversed_components before h)

-- the last component taken away
pub joined_before : (last : List ℕ) (before : List (List ℕ)) → list_all is_component (last ∷ before) ≡ true → before_last is_slash (joined (last ∷ before)) ≡ joined before
joined_before last before h =
    let parts = and_parts (is_component last) (list_all is_component before) h in
    ap (before_last is_slash) (joined-cons last before parts.1) ∙ before_last_component (joined before) last (component_plain last parts.0)

join_not_empty : (pieces components : List (List ℕ)) → reverse components ≡ pieces → list_all is_component components ≡ true → join_with_byte 47 pieces ≡ [] → (components ≡ [])
join_not_empty [] components e h empty = sym (reverse-reverse components) ∙ ap reverse e
join_not_empty (first ∷ others) components e h empty =
    let good : list_all is_component (first ∷ others) ≡ true = subst (λ (v : List (List ℕ)). list_all is_component v ≡ true) e (reversed_components components h) in
    absurd (join_some first others (and_parts (is_component first) (list_all is_component others) good).0 empty)

-- only no components are joined to an empty path
pub joined_empty : (components : List (List ℕ)) → list_all is_component components ≡ true → joined components ≡ [] → components ≡ []
joined_empty components h empty = join_not_empty (reverse components) components refl h empty

-- ---- one more piece

-- whether there is a path after a piece, and which
abbrev pub Follows : Option (List (List ℕ)) → Bool → List ℕ → Type 0
Follows next fine path = MatchOption next (fine ≡ false) (λ after. (fine ≡ true) × (path ≡ joined after))

pub piece_adds : (before : List (List ℕ)) (piece path after : List ℕ) → list_all is_component before ≡ true → path ≡ joined before
    → (bytes_eq piece [] || bytes_eq piece (codes ".")) ≡ false → bytes_eq piece (codes "..") ≡ false → after ≡ with_component path piece
    → Follows (after_piece before piece) true after
piece_adds before piece path after h is stays adds more =
    rw (stays, adds) (refl, more ∙ ap (λ (v : List ℕ). with_component v piece) is ∙ sym (joined-cons piece before h))

climb_from_none : (before : List (List ℕ)) (path : List ℕ) → before ≡ [] → Follows (without_last before) false path
climb_from_none [] path e = refl
climb_from_none (last ∷ before) path e = absurd cc

pub piece_fails : (before : List (List ℕ)) (piece path : List ℕ) → list_all is_component before ≡ true → path ≡ joined before
    → (bytes_eq piece [] || bytes_eq piece (codes ".")) ≡ false → bytes_eq piece (codes "..") ≡ true → path ≡ []
    → Follows (after_piece before piece) false path
piece_fails before piece path h is stays climbs empty =
    rw (stays, climbs) (climb_from_none before path (joined_empty before h (sym is ∙ empty)))

climb_from_some : (before : List (List ℕ)) (path after : List ℕ) → list_all is_component before ≡ true → path ≡ joined before → (path ≡ [] → ⊥) → after ≡ before_last is_slash path
    → Follows (without_last before) true after
climb_from_some [] path after h is some less = absurd (some is)
climb_from_some (last ∷ before) path after h is some less = (refl, less ∙ ap (before_last is_slash) is ∙ joined_before last before h)

pub piece_climbs : (before : List (List ℕ)) (piece path after : List ℕ) → list_all is_component before ≡ true → path ≡ joined before
    → (bytes_eq piece [] || bytes_eq piece (codes ".")) ≡ false → bytes_eq piece (codes "..") ≡ true → (path ≡ [] → ⊥) → after ≡ before_last is_slash path
    → Follows (after_piece before piece) true after
piece_climbs before piece path after h is stays climbs some less = rw (stays, climbs) (climb_from_some before path after h is some less)

pub rest_is : (text : List ℕ) (i : ℕ) → take (length text - (i + 1)) (drop (i + 1) text) ≡ drop (i + 1) text
rest_is text i = take_rest text (i + 1)

-- some components are read, and the rest of the text gives what is left
pub record Reads (path rest text : List ℕ) : Type 0 where
  pub before : List (List ℕ)
  pub good : list_all is_component before ≡ true
  pub path_is : path ≡ joined before
  pub plain : list_all is_plain (pieces_of rest) ≡ true
  pub goes_on : after_pieces before (pieces_of rest) ≡ after_pieces [] (pieces_of text)

pub Reads-none : (text : List ℕ) → list_all is_printable text ≡ true → Reads [] text text
Reads-none text h = record { before = []; good = refl; path_is = refl; plain = plain_pieces text h; goes_on = refl }

-- the pieces after a piece
abbrev pub Pieces : List ℕ → List ℕ → Option (Bor (List ℕ)) → Type 0
Pieces rest piece after = MatchOption after (pieces_of rest ≡ piece ∷ []) (λ next. (pieces_of rest ≡ piece ∷ pieces_of next.now) × (length next.now < length rest))

some_pieces : (rest piece : List ℕ) (after : Option (Bor (List ℕ))) → Pieces rest piece after → (others : List (List ℕ)) × (pieces_of rest ≡ piece ∷ others)
some_pieces rest piece None h = ([], h)
some_pieces rest piece (Some next) h = (pieces_of next.now, h.0)

follows_none : (next : Option (List (List ℕ))) (path : List ℕ) → Follows next false path → next ≡ None
follows_none None path h = refl
follows_none (Some after) path h = absurd (false≢true h.0)

follows_some : (next : Option (List (List ℕ))) (path : List ℕ) → Follows next true path → (after : List (List ℕ)) × (next ≡ Some after) × (path ≡ joined after)
follows_some None path h = absurd (true≢false h)
follows_some (Some after) path h = (after, refl, h.1)

pub last_piece : (rest piece : List ℕ) (after : Option (Bor (List ℕ))) → after ≡ None → Pieces rest piece after → pieces_of rest ≡ piece ∷ []
last_piece rest piece after e h = subst (λ (v : Option (Bor (List ℕ))). Pieces rest piece v) e h

pub next_piece : (rest piece : List ℕ) (after : Option (Bor (List ℕ))) (next : Bor (List ℕ)) → after ≡ Some next → Pieces rest piece after → pieces_of rest ≡ piece ∷ pieces_of next.now
next_piece rest piece after next e h = (subst (λ (v : Option (Bor (List ℕ))). Pieces rest piece v) e h).0

step : (before next : List (List ℕ)) (piece : List ℕ) (pieces : List (List ℕ)) → after_piece before piece ≡ Some next → after_pieces before (piece ∷ pieces) ≡ after_pieces next pieces
unfolding after_pieces
step before next piece pieces e = rw e refl

pub reading_stops : (path rest text piece new : List ℕ) (after : Option (Bor (List ℕ))) (r : Reads path rest text) → Pieces rest piece after → Follows (after_piece r.before piece) false new
    → ◌≡◌ {A = Option (List ℕ)} None (option_map joined (after_pieces [] (pieces_of text)))
unfolding after_pieces
reading_stops path rest text piece new after r pieces h =
    let others = some_pieces rest piece after pieces in
    let none : after_pieces r.before (piece ∷ others.0) ≡ None = rw (follows_none (after_piece r.before piece) new h) refl in
    ap (option_map joined) (sym none ∙ ap (after_pieces r.before) (sym others.1) ∙ r.goes_on)

pub reading_ends : (path rest text piece new : List ℕ) (r : Reads path rest text) → pieces_of rest ≡ piece ∷ [] → Follows (after_piece r.before piece) true new
    → Some new ≡ option_map joined (after_pieces [] (pieces_of text))
unfolding after_pieces
reading_ends path rest text piece new r pieces h =
    let next = follows_some (after_piece r.before piece) new h in
    let some : after_pieces r.before (piece ∷ []) ≡ Some next.0 = step r.before next.0 piece [] next.1 in
    ap (λ (v : List ℕ). Some v) next.2 ∙ ap (option_map joined) (sym some ∙ ap (after_pieces r.before) (sym pieces) ∙ r.goes_on)

pub reading_goes_on : (path rest text piece new next : List ℕ) (r : Reads path rest text) → pieces_of rest ≡ piece ∷ pieces_of next → Follows (after_piece r.before piece) true new → Reads new next text
reading_goes_on path rest text piece new next r pieces h =
    let after = follows_some (after_piece r.before piece) new h in
    let plain : list_all is_plain (piece ∷ pieces_of next) ≡ true = subst (λ (v : List (List ℕ)). list_all is_plain v ≡ true) pieces r.plain in
    let parts = and_parts (is_plain piece) (list_all is_plain (pieces_of next)) plain in
    let one = step r.before after.0 piece (pieces_of next) after.1 in
    record {
      before = after.0;
      good = piece_components r.before after.0 piece r.good parts.0 after.1;
      path_is = after.2;
      plain = parts.1;
      goes_on = sym one ∙ ap (after_pieces r.before) (sym pieces) ∙ r.goes_on;
    }

-- what is read of a text is its path, where it isn't empty and not too long
short_path_of : (components : Option (List (List ℕ))) (path : List ℕ) → Some path ≡ option_map joined components → (path ≡ [] → ⊥) → length path ≤ 1024
    → (components >>= λ found. not (bytes_eq (joined found) []) >> (leb (length (joined found)) max_path >> Some (joined found))) ≡ Some path
short_path_of None path e some short = absurd cc
short_path_of (Some found) path e some short =
    let same : path ≡ joined found = same_Some path (joined found) e in
    let filled : bytes_eq path [] ≡ false = false_from_ne_true (bytes_eq path []) (λ h. some ((bytes_eq-Decides path []).0 h)) in
    let fits : leb (length path) max_path ≡ true = le-leb _ _ short in
    subst (λ (v : List ℕ). (not (bytes_eq v []) >> (leb (length v) max_path >> Some v)) ≡ Some path) same (rw (filled, fits) refl)

pub short_path : (text path : List ℕ) → Some path ≡ option_map joined (components_of text) → (path ≡ [] → ⊥) → length path ≤ 1024 → path_of text ≡ Some path
unfolding path_of
short_path text path e some short = short_path_of (components_of text) path e some short
