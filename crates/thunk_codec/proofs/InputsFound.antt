-- An input that is found by halves is the first with its path.
use Rattle.std.proofs.Common.{◌≡◌, ℕ, zero, suc, ◌<◌, ltb, true, false, List, [], ◌∷◌, length, map, get_or, Some, None, refl, sym, ap, ◌∙◌, arith, add-one, inl, inr}
use Rattle.std.specs.Prelude.{bytes_eq}
use Rattle.std.specs.Cmp.Lexicographic.{slice_cmp}
use Rattle.std.specs.Ordering.{nat_cmp, is_lt, ordering_reverse, ordering_index}
use Rattle.std.specs.List.Sorted.{IsSortedBy, IsNonDecreasingBy, IsPartitionPoint}
use Rattle.std.specs.declared.cmp.Ordering.{Ordering}
use Rattle.std.specs.declared.cmp.Ordering.TheVariants.{Less, Equal, Greater}
use Rattle.std.proofs.lemmas.Bool.{and_parts, cases_Bool, ltb-true, ltb-false}
use Rattle.std.proofs.lemmas.Cmp.{nat_list_cmp_total}
use Rattle.std.proofs.lemmas.List.Sorted.{searchable_from_sorted}
use Rattle.std.proofs.lemmas.Map.Lookups.{exact_bytes}
use Rattle.std.proofs.lemmas.Slice.Eq.{bytes_eq-Decides}
use Rattle.thunk_codec.specs.Thunk.{is_strictly_increasing}
use Rattle.thunk_codec.specs.Job.{input_at}

-- inputs
abbrev Inputs : Type 0
Inputs = List (List ℕ × List ℕ)

-- each path is before the next
abbrev AreSorted : Inputs → Type 0
AreSorted inputs = is_strictly_increasing (map (λ input. input.0) inputs) ≡ true

-- how an input's path compares with a path
abbrev pub compared : List ℕ → List ℕ × List ℕ → Ordering
compared path input = slice_cmp nat_cmp input.0 path

less_is : (order : Ordering) → is_lt order ≡ true → order ≡ Less
less_is Less h = refl
less_is Equal h = absurd cc
less_is Greater h = absurd cc

own_reverse : (order : Ordering) → order ≡ ordering_reverse order → order ≡ Equal
own_reverse Less h = absurd cc
own_reverse Equal h = refl
own_reverse Greater h = absurd cc

same_compared : (path : List ℕ) → slice_cmp nat_cmp path path ≡ Equal
same_compared path = own_reverse (slice_cmp nat_cmp path path) (nat_list_cmp_total.antisymm path path)

equal_compared : (one path : List ℕ) → bytes_eq one path ≡ true → slice_cmp nat_cmp one path ≡ Equal
equal_compared one path same = ap (λ (p : List ℕ). slice_cmp nat_cmp p path) ((bytes_eq-Decides one path).0 same) ∙ same_compared path

-- paths that do not compare as equal differ
differ : (one path : List ℕ) → (slice_cmp nat_cmp one path ≡ Equal → ⊥) → bytes_eq one path ≡ false
differ one path other = elim (cases_Bool (bytes_eq one path)) [
  | inl same ↦ absurd (other (equal_compared one path same))
  | inr not_same ↦ not_same
]

-- ---- the first of sorted inputs

first_before : (input : List ℕ × List ℕ) (inputs : Inputs) → AreSorted (input ∷ inputs) → (k : ℕ) (d : List ℕ × List ℕ) → k < length inputs
    → slice_cmp nat_cmp input.0 (get_or inputs k d).0 ≡ Less
first_before input [] sorted k d below = absurd (omega arith)
first_before input (second ∷ others) sorted zero d below =
    let parts = and_parts (is_lt (slice_cmp nat_cmp input.0 second.0)) (is_strictly_increasing (map (λ i. i.0) (second ∷ others))) sorted in
    less_is _ parts.0
first_before input (second ∷ others) sorted (suc k) d below =
    let parts = and_parts (is_lt (slice_cmp nat_cmp input.0 second.0)) (is_strictly_increasing (map (λ i. i.0) (second ∷ others))) sorted in
    nat_list_cmp_total.trans input.0 second.0 (get_or others k d).0 (less_is _ parts.0) (first_before second others parts.1 k d (omega (arith, below)))

others_sorted : (input : List ℕ × List ℕ) (inputs : Inputs) → AreSorted (input ∷ inputs) → AreSorted inputs
others_sorted input [] sorted = refl
others_sorted input (second ∷ others) sorted =
    (and_parts (is_lt (slice_cmp nat_cmp input.0 second.0)) (is_strictly_increasing (map (λ i. i.0) (second ∷ others))) sorted).1

-- an input before another has another path
less_differs : (one path : List ℕ) → slice_cmp nat_cmp one path ≡ Less → bytes_eq one path ≡ false
less_differs one path less = differ one path (λ equal. absurd cc)

pub found_at : (path : List ℕ) (inputs : Inputs) → AreSorted inputs → (i : ℕ) (d : List ℕ × List ℕ) → i < length inputs → (get_or inputs i d).0 ≡ path
    → input_at path inputs ≡ Some (get_or inputs i d).1
found_at path [] sorted i d below is = absurd (omega arith)
found_at path (input ∷ inputs) sorted zero d below is = rw ((bytes_eq-Decides input.0 path).1 is) refl
found_at path (input ∷ inputs) sorted (suc i) d below is =
    let other = less_differs input.0 path (ap (slice_cmp nat_cmp input.0) (sym is) ∙ first_before input inputs sorted i d (omega (arith, below))) in
    rw other (found_at path inputs (others_sorted input inputs sorted) i d (omega (arith, below)) is)

pub none_there : (path : List ℕ) (inputs : Inputs) → ((k : ℕ) (d : List ℕ × List ℕ) → k < length inputs → compared path (get_or inputs k d) ≡ Equal → ⊥)
    → input_at path inputs ≡ None
none_there path [] none = refl
none_there path (input ∷ inputs) none =
    rw (differ input.0 path (none 0 input (omega arith))) (none_there path inputs (λ k d below. none (suc k) d (omega (arith, below))))

adjacent : (inputs : Inputs) → AreSorted inputs → (k : ℕ) (d : List ℕ × List ℕ) → suc k < length inputs → slice_cmp nat_cmp (get_or inputs k d).0 (get_or inputs (suc k) d).0 ≡ Less
adjacent [] sorted k d high = absurd (omega arith)
adjacent (input ∷ inputs) sorted zero d high = first_before input inputs sorted 0 d (omega (arith, high))
adjacent (input ∷ inputs) sorted (suc k) d high = adjacent inputs (others_sorted input inputs sorted) k d (omega (arith, high))

after_adjacent : (inputs : Inputs) → AreSorted inputs → (k : ℕ) (d : List ℕ × List ℕ) → suc k < length inputs → is_lt (slice_cmp nat_cmp (get_or inputs (suc k) d).0 (get_or inputs k d).0) ≡ false
after_adjacent inputs sorted k d high =
    ap is_lt (nat_list_cmp_total.antisymm (get_or inputs (suc k) d).0 (get_or inputs k d).0 ∙ ap ordering_reverse (adjacent inputs sorted k d high))

sorted_by : (inputs : Inputs) → AreSorted inputs → IsSortedBy (λ a b. is_lt (slice_cmp nat_cmp a.0 b.0)) inputs
sorted_by inputs sorted k d low high = rw add-one (after_adjacent inputs sorted k d (omega (arith, high)))

-- ---- what a search by halves gave

pub found_sorted : (path : List ℕ) (inputs : Inputs) (i : ℕ) (input : List ℕ × List ℕ) → AreSorted inputs → i < length inputs → input ≡ get_or inputs i input
    → ((d : List ℕ × List ℕ) → compared path (get_or inputs i d) ≡ Equal) → (input.0 ≡ path) × (input_at path inputs ≡ Some input.1)
found_sorted path inputs i input sorted below is equal =
    let same : (get_or inputs i input).0 ≡ path = exact_bytes _ _ (equal input) in
    (ap (λ (v : List ℕ × List ℕ). v.0) is ∙ same, found_at path inputs sorted i input below same ∙ ap (λ (v : List ℕ × List ℕ). Some v.1) (sym is))

-- neither before nor after the index
not_equal : (order : Ordering) → order ≡ Less → order ≡ Equal → ⊥
not_equal order less equal = absurd cc

not_equal_either : (order : Ordering) → order ≡ Greater → order ≡ Equal → ⊥
not_equal_either order greater equal = absurd cc

pub none_sorted : (path : List ℕ) (inputs : Inputs) (i : ℕ) → AreSorted inputs
    → (IsNonDecreasingBy (λ input. ordering_index (compared path input)) inputs → IsPartitionPoint (λ input. compared path input ≡ Less) (λ input. compared path input ≡ Greater) inputs i)
    → input_at path inputs ≡ None
none_sorted path inputs i sorted parted =
    let parts = parted (searchable_from_sorted nat_list_cmp_total (λ (input : List ℕ × List ℕ). input.0) inputs path (sorted_by inputs sorted)) in
    none_there path inputs (λ k d below equal. elim (cases_Bool (ltb k i)) [
      | inl before ↦ not_equal _ (parts.0 k d (omega arith) (ltb-true k i before)) equal
      | inr after ↦ not_equal_either _ (parts.1 k d (ltb-false k i after) below) equal
    ])
