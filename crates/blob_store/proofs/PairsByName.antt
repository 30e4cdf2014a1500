-- What is under a name in a list of pairs that is seen as a finite map, and what a put makes of it.
use Rattle.std.proofs.Common.{◌≡◌, ℕ, List, [], ◌∷◌, ◌++◌, get_or, length, Some, None, sym, ap, subst, ◌∙◌}
use Rattle.std.specs.Prelude.{position, slice_set}
use Rattle.std.specs.FinMap as map
use Rattle.std.specs.FinMap.{len-empty}
use Rattle.std.specs.Ordering.{eq_by_cmp}
use Rattle.object_name.specs.Name.{ObjectName, name_cmp}
use Rattle.object_name.proofs.PublicLaws.{name_cmp_total, name_cmp-IsAntisymmetric}
use Rattle.blob_store.specs.Memory.{ByName}
use Rattle.blob_store.proofs.KeyIndex.{get-place, get-no_place, insert-place, insert-push, length-place, length-push}

abbrev Pairs : Type 0
Pairs = List (ObjectName × List ℕ)

-- where a name has a place, the bytes there are under it
pub get_found : (kept : ByName) (name : ObjectName) (pairs seen : Pairs) (i : ℕ) (pair : ObjectName × List ℕ) (bytes : List ℕ) → map.from_entries pairs ≡ kept → seen ≡ pairs
    → Some i ≡ position (λ (p : ObjectName × List ℕ). eq_by_cmp name_cmp name p.0) seen → pair ≡ get_or pairs i pair → bytes ≡ pair.1 → Some bytes ≡ map.get kept name
get_found kept name pairs seen i pair bytes view same place there is =
    let placed = sym (place ∙ ap (position (λ (p : ObjectName × List ℕ). eq_by_cmp name_cmp name p.0)) same) in
    ap Some (is ∙ ap (λ (p : ObjectName × List ℕ). p.1) there) ∙ sym (get-place name_cmp_total name_cmp-IsAntisymmetric name pairs i pair placed) ∙ ap (λ (m : ByName). map.get m name) view

-- where it has none, nothing is
pub get_none : (kept : ByName) (name : ObjectName) (pairs seen : Pairs) → map.from_entries pairs ≡ kept → seen ≡ pairs
    → None ≡ position (λ (p : ObjectName × List ℕ). eq_by_cmp name_cmp name p.0) seen → None ≡ map.get kept name
get_none kept name pairs seen view same place =
    let placed = sym (place ∙ ap (position (λ (p : ObjectName × List ℕ). eq_by_cmp name_cmp name p.0)) same) in
    sym (get-no_place name_cmp_total name_cmp-IsAntisymmetric name pairs placed) ∙ ap (λ (m : ByName). map.get m name) view

-- a pair written at its name's place is put
pub put_found : (kept : ByName) (name : ObjectName) (bytes : List ℕ) (pairs seen : Pairs) (i : ℕ) (pair : ObjectName × List ℕ) → map.from_entries pairs ≡ kept → seen ≡ pairs
    → Some i ≡ position (λ (p : ObjectName × List ℕ). eq_by_cmp name_cmp name p.0) seen → map.from_entries (slice_set pairs i (name, bytes)) ≡ map.insert kept name bytes
put_found kept name bytes pairs seen i pair view same place =
    let placed = sym (place ∙ ap (position (λ (p : ObjectName × List ℕ). eq_by_cmp name_cmp name p.0)) same) in
    insert-place name_cmp_total name_cmp-IsAntisymmetric name bytes pairs i pair placed ∙ ap (λ (m : ByName). map.insert m name bytes) view

-- a pair pushed where its name has no place is put
pub put_none : (kept : ByName) (name : ObjectName) (bytes : List ℕ) (pairs seen pushed : Pairs) → map.from_entries pairs ≡ kept → seen ≡ pairs
    → None ≡ position (λ (p : ObjectName × List ℕ). eq_by_cmp name_cmp name p.0) seen → pushed ≡ pairs ++ (name, bytes) ∷ [] → map.from_entries pushed ≡ map.insert kept name bytes
put_none kept name bytes pairs seen pushed view same place is =
    let placed = sym (place ∙ ap (position (λ (p : ObjectName × List ℕ). eq_by_cmp name_cmp name p.0)) same) in
    ap (λ (es : Pairs). map.from_entries es) is ∙ insert-push name_cmp_total name_cmp-IsAntisymmetric name bytes pairs placed ∙ ap (λ (m : ByName). map.insert m name bytes) view

-- as many pairs as names
abbrev IsWhole : Pairs → Type 0
IsWhole pairs = length pairs ≡ map.len (map.from_entries {R = name_cmp} pairs)

-- so it stays where a pair is written at its name's place
pub IsWhole-found : (name : ObjectName) (bytes : List ℕ) (pairs seen : Pairs) (i : ℕ) (pair : ObjectName × List ℕ) → seen ≡ pairs
    → Some i ≡ position (λ (p : ObjectName × List ℕ). eq_by_cmp name_cmp name p.0) seen → IsWhole pairs → IsWhole (slice_set pairs i (name, bytes))
IsWhole-found name bytes pairs seen i pair same place whole =
    let placed = sym (place ∙ ap (position (λ (p : ObjectName × List ℕ). eq_by_cmp name_cmp name p.0)) same) in
    length-place name_cmp_total name_cmp-IsAntisymmetric name bytes pairs i pair placed whole

-- and where one is pushed whose name has no place
pub IsWhole-none : (name : ObjectName) (bytes : List ℕ) (pairs seen pushed : Pairs) → seen ≡ pairs
    → None ≡ position (λ (p : ObjectName × List ℕ). eq_by_cmp name_cmp name p.0) seen → pushed ≡ pairs ++ (name, bytes) ∷ [] → IsWhole pairs → IsWhole pushed
IsWhole-none name bytes pairs seen pushed same place is whole =
    let placed = sym (place ∙ ap (position (λ (p : ObjectName × List ℕ). eq_by_cmp name_cmp name p.0)) same) in
    subst IsWhole (sym is) (length-push name_cmp_total name_cmp-IsAntisymmetric name bytes pairs placed whole)

-- and it holds of none
pub IsWhole-empty : (pairs : Pairs) → pairs ≡ [] → IsWhole pairs
IsWhole-empty pairs is = subst IsWhole (sym is) (sym (len-empty name_cmp (List ℕ)))
