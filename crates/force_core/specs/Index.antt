-- The numbers of the jobs whose outcomes were not taken, by the names of their texts.
use Rattle.std.specs.Prelude.{◌≡◌, ℕ, ◌+◌, ◌≤◌, List, [], ◌∷◌, Bool, true, false, ◌==◌, ◌||◌, Option, Some, None, slice_get, vec_len, vec_capacity}
use Rattle.std.specs.HashMap.{get, spare}
use Rattle.object_name.specs.Name.{ObjectName, name_of}
use Rattle.object_name.specs.contracts.name.NamePartialEq.TheImpl as name_equality
use Rattle.thunk_codec.specs.declared.job.Job.{Job}
use Rattle.force_core.specs.Book.{Task}
use Rattle.force_core.specs.Known.{is_untaken, is_known, known}
use Rattle.force_core.specs.declared.index.Index.{Index}

-- whether this is that number
abbrev pub is_number : ℕ → Option ℕ → Bool
is_number id None = false
is_number id (Some other) = other == id

-- whether a number is one of some
abbrev pub is_among : ℕ → List ℕ → Bool
is_among id [] = false
is_among id (other ∷ others) = (other == id) || is_among id others

-- the number that stands by itself under a name
abbrev pub first_at : Index → ObjectName → Option ℕ
first_at index name = get (name_equality.ghosts).eq index.firsts name

-- whether an index leads from a name to a number
abbrev pub leads : Index → ObjectName → ℕ → Bool
leads index name id = is_number id (first_at index name) || is_among id index.others.items

-- whether the job of a number is that one, under that text, and its outcome was not taken
abbrev pub is_known_task : List ℕ → Job → Option Task → Bool
is_known_task text job None = false
is_known_task text job (Some t) = is_known text job t

abbrev pub is_known_at : List ℕ → Job → List Task → ℕ → Bool
is_known_at text job tasks id = is_known_task text job (slice_get tasks id)

-- there is room for a number more
pub record HasRoom (index : Index) : Type 0 where
  pub first : 1 ≤ spare index.firsts
  pub other : vec_len index.others + 1 ≤ vec_capacity index.others

-- an index leads to each job whose outcome was not taken, and that is the only one that is known under its text
pub record IsIndex (index : Index) (tasks : List Task) : Type 0 where
  pub reached : (id : ℕ) (t : Task) → slice_get tasks id ≡ Some t → is_untaken t ≡ true → leads index (name_of t.text) id ≡ true
  pub single : (id : ℕ) (t : Task) → slice_get tasks id ≡ Some t → is_untaken t ≡ true → known t.text t.job tasks ≡ Some id
