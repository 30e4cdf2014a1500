-- Lists in the byte order of a key of their items: insertion sort, which leaves items of equal keys in their order.
use Rattle.std.specs.Prelude.{ℕ, List, [], ◌∷◌, Bool, if◌then◌else◌}
use Rattle.std.specs.Ordering.{nat_cmp, is_lt}
use Rattle.std.specs.Cmp.Lexicographic.{slice_cmp}

-- whether the key of an item is before that of another, byte by byte
abbrev pub is_before_by : {A : Type 0} → (A → List ℕ) → A → A → Bool
is_before_by key first second = is_lt (slice_cmp nat_cmp (key first) (key second))

-- some items with one more: it stands behind those whose keys are before its own, and before all others
abbrev pub inserted_by : {A : Type 0} → (A → List ℕ) → A → List A → List A
inserted_by key item [] = item ∷ []
inserted_by key item (first ∷ others) =
    if is_before_by key first item then first ∷ inserted_by key item others else item ∷ first ∷ others

-- the same items in the order of their keys
unfoldable pub sorted_by : {A : Type 0} → (A → List ℕ) → List A → List A
sorted_by key [] = []
sorted_by key (item ∷ items) = inserted_by key item (sorted_by key items)

-- paths in byte order
abbrev pub sorted_paths : List (List ℕ) → List (List ℕ)
sorted_paths paths = sorted_by (λ path. path) paths

-- an environment in the byte order of its keys
abbrev pub sorted_envs : List (List ℕ × List ℕ) → List (List ℕ × List ℕ)
sorted_envs envs = sorted_by (λ env. env.0) envs
