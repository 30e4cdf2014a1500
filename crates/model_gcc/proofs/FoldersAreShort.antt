-- A folder is at most one byte longer than the text that it is read of, and has no zero byte.
use Rattle.std.proofs.Common.{◌≡◌, ◌≤◌, ℕ, ◌+◌, ◌-◌, true, not, leb, ◌==◌, ◌||◌, List, [], ◌∷◌, length, reverse, length-append, Some, refl, sym, subst, ◌∙◌, arith, inl, inr}
use mathlib.Core.List.{reverse_aux}
use Rattle.std.specs.Prelude.{bytes_eq, codes}
use Rattle.std.specs.List.{list_all, join_with_byte, onto_first}
use Rattle.std.proofs.lemmas.Bool.{and_parts, and_from, cases_Bool, leb-true, ne_eqb, not_from_false}
use Rattle.std.proofs.lemmas.List.Folds.{list_all-append}
use Rattle.std.proofs.lemmas.Option.{same_Some}
use Rattle.text_lines.specs.Maybe.{◌>>◌, bind_some, test_some}
use Rattle.thunk_codec.specs.Components.{is_plain_byte, is_plain, is_component}
use Rattle.thunk_codec.specs.Folder.{folder_of, folder_text}
use Rattle.thunk_codec.specs.Path.{is_slash, is_printable, pieces_of, joined, without_last, after_piece, after_pieces, components_of, is_path, max_path}
use Rattle.thunk_codec.specs.Thunk.{has_no_zero}
use Rattle.thunk_codec.proofs.PublicLaws.{component_plain, path_parts}

-- ---- lengths

-- the bytes of some pieces, and one for each
weight : List (List ℕ) → ℕ
weight [] = 0
weight (piece ∷ pieces) = 1 + length piece + weight pieces

weight-onto : (byte : ℕ) (pieces : List (List ℕ)) → 1 ≤ weight pieces → weight (onto_first byte pieces) ≡ 1 + weight pieces
unfolding weight
weight-onto byte [] some = absurd (omega (arith, some))
weight-onto byte (piece ∷ pieces) some = omega arith

weight-pieces : (text : List ℕ) → weight (pieces_of text) ≡ 1 + length text
unfolding weight
weight-pieces [] = refl
weight-pieces (byte ∷ text) =
    let others = weight-pieces text in
    elim (cases_Bool (is_slash byte)) [
      | inl slash ↦ rw slash (omega (arith, others))
      | inr other ↦ rw other (let onto = weight-onto byte (pieces_of text) (omega (arith, others)) in omega (arith, onto, others))
    ]

weight-without_last : (before next : List (List ℕ)) → without_last before ≡ Some next → weight next ≤ weight before
unfolding weight
weight-without_last [] next e = absurd cc
weight-without_last (last ∷ before) next e = subst (λ (v : List (List ℕ)). weight v ≤ weight (last ∷ before)) (same_Some before next e) (omega arith)

weight-after_piece : (before next : List (List ℕ)) (piece : List ℕ) → after_piece before piece ≡ Some next → weight next ≤ weight before + (1 + length piece)
unfolding weight
weight-after_piece before next piece e =
    elim (cases_Bool (bytes_eq piece [] || bytes_eq piece (codes "."))) [
      | inl drops ↦ subst (λ (v : List (List ℕ)). weight v ≤ weight before + (1 + length piece)) (same_Some before next (rw drops at e)) (omega arith)
      | inr stays ↦ elim (cases_Bool (bytes_eq piece (codes ".."))) [
        | inl climbs ↦ let less = weight-without_last before next (rw (stays, climbs) at e) in omega (arith, less)
        | inr adds ↦ subst (λ (v : List (List ℕ)). weight v ≤ weight before + (1 + length piece)) (same_Some (piece ∷ before) next (rw (stays, adds) at e)) (omega arith)
      ]
    ]

weight-after_pieces : (before next pieces : List (List ℕ)) → after_pieces before pieces ≡ Some next → weight next ≤ weight before + weight pieces
unfolding weight after_pieces
weight-after_pieces before next [] e = subst (λ (v : List (List ℕ)). weight v ≤ weight before + 0) (same_Some before next e) (omega arith)
weight-after_pieces before next (piece ∷ pieces) e =
    let first = bind_some (after_piece before piece) (λ v. after_pieces v pieces) next e in
    let one = weight-after_piece before first.0 piece first.1 in
    let rest = weight-after_pieces first.0 next pieces first.2 in
    omega (arith, one, rest)

weight-reverse_aux : (xs ys : List (List ℕ)) → weight (reverse_aux xs ys) ≡ weight xs + weight ys
unfolding weight
weight-reverse_aux [] ys = omega arith
weight-reverse_aux (x ∷ xs) ys = let rest = weight-reverse_aux xs (x ∷ ys) in omega (arith, rest)

length-join : (pieces : List (List ℕ)) → length (join_with_byte 47 pieces) ≤ weight pieces - 1
unfolding weight
length-join [] = omega arith
length-join (first ∷ []) = omega arith
length-join (first ∷ second ∷ others) =
    let rest = length-join (second ∷ others) in
    let whole = length-append first (47 ∷ join_with_byte 47 (second ∷ others)) in
    omega (arith, rest, whole)

-- what the components of a text are joined to is no longer than the text
joined_short : (text : List ℕ) (components : List (List ℕ)) → components_of text ≡ Some components → length (joined components) ≤ length text
unfolding components_of weight
joined_short text components e =
    let a = test_some _ (list_all is_printable text >> after_pieces [] (pieces_of text)) components e in
    let b = test_some (list_all is_printable text) (after_pieces [] (pieces_of text)) components a.1 in
    let all = weight-after_pieces [] components (pieces_of text) b.1 in
    let text_weight = weight-pieces text in
    let back = weight-reverse_aux components [] in
    let join = length-join (reverse components) in
    omega (arith, all, text_weight, back, join)

-- ---- bytes that are not zero

printable_not_zero : (byte : ℕ) → is_printable byte ≡ true → not (byte == 0) ≡ true
printable_not_zero byte h =
    let low = leb-true 32 byte (and_parts (leb 32 byte) (leb byte 126) h).0 in
    not_from_false _ (ne_eqb byte 0 (λ is. omega (arith, low, is)))

plain_no_zero : (piece : List ℕ) → is_plain piece ≡ true → has_no_zero piece ≡ true
plain_no_zero [] h = refl
plain_no_zero (byte ∷ piece) h =
    let parts = and_parts (is_plain_byte byte) (is_plain piece) h in
    and_from _ _ (printable_not_zero byte (and_parts (is_printable byte) (not (is_slash byte)) parts.0).0) (plain_no_zero piece parts.1)

-- ---- pieces without zero bytes

abbrev AreNoZero : List (List ℕ) → Type 0
AreNoZero pieces = list_all has_no_zero pieces ≡ true

components_no_zero : (components : List (List ℕ)) → list_all is_component components ≡ true → AreNoZero components
components_no_zero [] h = refl
components_no_zero (first ∷ others) h =
    let parts = and_parts (is_component first) (list_all is_component others) h in
    and_from _ _ (plain_no_zero first (component_plain first parts.0)) (components_no_zero others parts.1)

reverse_aux_no_zero : (xs ys : List (List ℕ)) → AreNoZero xs → AreNoZero ys → AreNoZero (reverse_aux xs ys)
reverse_aux_no_zero [] ys hx hy = hy
reverse_aux_no_zero (x ∷ xs) ys hx hy =
    let parts = and_parts (has_no_zero x) (list_all has_no_zero xs) hx in
    reverse_aux_no_zero xs (x ∷ ys) parts.1 (and_from _ _ parts.0 hy)

join_no_zero : (pieces : List (List ℕ)) → AreNoZero pieces → has_no_zero (join_with_byte 47 pieces) ≡ true
join_no_zero [] h = refl
join_no_zero (first ∷ []) h = (and_parts (has_no_zero first) true h).0
join_no_zero (first ∷ second ∷ others) h =
    let parts = and_parts (has_no_zero first) (list_all has_no_zero (second ∷ others)) h in
    list_all-append (λ byte. not (byte == 0)) first (47 ∷ join_with_byte 47 (second ∷ others)) ∙ and_from _ _ parts.0 (join_no_zero (second ∷ others) parts.1)

joined_no_zero : (components : List (List ℕ)) → AreNoZero components → has_no_zero (joined components) ≡ true
joined_no_zero components h = join_no_zero (reverse components) (reverse_aux_no_zero components [] h refl)

onto_no_zero : (byte : ℕ) (pieces : List (List ℕ)) → not (byte == 0) ≡ true → AreNoZero pieces → AreNoZero (onto_first byte pieces)
onto_no_zero byte [] b h = and_from _ _ (and_from _ _ b refl) refl
onto_no_zero byte (piece ∷ pieces) b h =
    let parts = and_parts (has_no_zero piece) (list_all has_no_zero pieces) h in
    and_from _ _ (and_from _ _ b parts.0) parts.1

pieces_no_zero : (text : List ℕ) → list_all is_printable text ≡ true → AreNoZero (pieces_of text)
pieces_no_zero [] h = refl
pieces_no_zero (byte ∷ text) h =
    let parts = and_parts (is_printable byte) (list_all is_printable text) h in
    let others = pieces_no_zero text parts.1 in
    elim (cases_Bool (is_slash byte)) [
      | inl slash ↦ rw slash others
      | inr other ↦ rw other (onto_no_zero byte (pieces_of text) (printable_not_zero byte parts.0) others)
    ]

without_last_no_zero : (before next : List (List ℕ)) → AreNoZero before → without_last before ≡ Some next → AreNoZero next
without_last_no_zero [] next h e = absurd cc
without_last_no_zero (last ∷ before) next h e = subst AreNoZero (same_Some before next e) (and_parts (has_no_zero last) (list_all has_no_zero before) h).1

after_piece_no_zero : (before next : List (List ℕ)) (piece : List ℕ) → AreNoZero before → has_no_zero piece ≡ true → after_piece before piece ≡ Some next → AreNoZero next
after_piece_no_zero before next piece h p e =
    elim (cases_Bool (bytes_eq piece [] || bytes_eq piece (codes "."))) [
      | inl drops ↦ subst AreNoZero (same_Some before next (rw drops at e)) h
      | inr stays ↦ elim (cases_Bool (bytes_eq piece (codes ".."))) [
        | inl climbs ↦ without_last_no_zero before next h (rw (stays, climbs) at e)
        | inr adds ↦ subst AreNoZero (same_Some (piece ∷ before) next (rw (stays, adds) at e)) (and_from _ _ p h)
      ]
    ]

after_pieces_no_zero : (before next pieces : List (List ℕ)) → AreNoZero before → AreNoZero pieces → after_pieces before pieces ≡ Some next → AreNoZero next
unfolding after_pieces
after_pieces_no_zero before next [] h p e = subst AreNoZero (same_Some before next e) h
after_pieces_no_zero before next (piece ∷ pieces) h p e =
    let parts = and_parts (has_no_zero piece) (list_all has_no_zero pieces) p in
    let first = bind_some (after_piece before piece) (λ v. after_pieces v pieces) next e in
    after_pieces_no_zero first.0 next pieces (after_piece_no_zero before first.0 piece h parts.0 first.1) parts.1 first.2

-- the components of a text
text_no_zero : (text : List ℕ) (components : List (List ℕ)) → components_of text ≡ Some components → AreNoZero components
unfolding components_of
text_no_zero text components e =
    let a = test_some _ (list_all is_printable text >> after_pieces [] (pieces_of text)) components e in
    let b = test_some (list_all is_printable text) (after_pieces [] (pieces_of text)) components a.1 in
    after_pieces_no_zero [] components (pieces_of text) refl (pieces_no_zero text b.0) b.1

-- a path has none
pub path_no_zero : (path : List ℕ) → is_path path ≡ true → has_no_zero path ≡ true
path_no_zero path h =
    let j = path_parts path h in
    subst (λ (v : List ℕ). has_no_zero v ≡ true) (sym j.path_is) (joined_no_zero (j.last ∷ j.before) (components_no_zero (j.last ∷ j.before) j.good))

-- ---- folders

-- a folder as an argument
pub record IsShortFolder (text folder : List ℕ) : Type 0 where
  pub short : length folder ≤ 1 + length text
  pub no_zero : has_no_zero folder ≡ true

folder_text_short : (text path : List ℕ) → length path ≤ length text → has_no_zero path ≡ true → IsShortFolder text (folder_text path)
folder_text_short text [] short zero = record { short = omega arith; no_zero = refl }
folder_text_short text (byte ∷ path) short zero = record { short = omega (arith, short); no_zero = zero }

pub folder_short : (text folder : List ℕ) → folder_of text ≡ Some folder → IsShortFolder text folder
unfolding folder_of
folder_short text folder e =
    let a = bind_some (components_of text) (λ components. leb (length (joined components)) max_path >> Some (folder_text (joined components))) folder e in
    let b = test_some (leb (length (joined a.0)) max_path) (Some (folder_text (joined a.0))) folder a.2 in
    let zero = joined_no_zero a.0 (text_no_zero text a.0 a.1) in
    subst (λ (v : List ℕ). IsShortFolder text v) (same_Some (folder_text (joined a.0)) folder b.1) (folder_text_short text (joined a.0) (joined_short text a.0 a.1) zero)
