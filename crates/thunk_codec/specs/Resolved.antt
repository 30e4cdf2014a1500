-- Thunks with names of values in place of their REFs.
use Rattle.std.specs.Prelude.{◌≡◌, ℕ, ◌≤◌, List, [], ◌∷◌, map}
use Rattle.std.specs.List.{AllByRecursion}
use Rattle.object_name.specs.declared.kind.Kind.TheVariants as kinds
use Rattle.object_name.specs.Name.{ObjectName, IsName, max_size}
use Rattle.thunk_codec.specs.declared.reference.Ref.{Ref}
use Rattle.thunk_codec.specs.declared.reference.Ref.TheVariants.{Value}
use Rattle.thunk_codec.specs.Thunk.{Parts, IsThunk}

-- the REFs of a thunk: the function's, then those of the inputs in order
abbrev pub refs_of : Parts → List Ref
refs_of t = t.function ∷ map (λ input. input.1) t.inputs

-- inputs with values in place of their REFs; those for which there is no value stay
abbrev pub with_values : List (List ℕ × Ref) → List ObjectName → List (List ℕ × Ref)
with_values [] values = []
with_values (input ∷ inputs) [] = input ∷ inputs
with_values (input ∷ inputs) (value ∷ values) = (input.0, Value value) ∷ with_values inputs values

-- a thunk with values in place of its REFs, in order
abbrev pub resolved_by : Parts → List ObjectName → Parts
resolved_by t [] = t
resolved_by t (value ∷ values) = record t { function = Value value; inputs = with_values t.inputs values }

-- the names are of values
abbrev pub HaveValueKind : List ObjectName → Type 0
HaveValueKind names = AllByRecursion (λ name. name.kind ≡ kinds.Value) names

-- they are names
abbrev pub AreNames : List ObjectName → Type 0
AreNames names = AllByRecursion IsName names

-- the parts of a thunk, without its REFs
pub record OfThunk (args : List (List ℕ)) (envs : List (List ℕ × List ℕ)) (paths : List (List ℕ)) (outputs : List (List ℕ)) : Type 0 where
  pub thunk : Parts
  pub rules : IsThunk thunk
  pub same_args : thunk.args ≡ args
  pub same_envs : thunk.envs ≡ envs
  pub same_paths : map (λ input. input.0) thunk.inputs ≡ paths
  pub same_outputs : thunk.outputs ≡ outputs

-- the lengths of the objects of some inputs are within the limit
abbrev pub HaveObjectLengths : List (List ℕ × ℕ) → Type 0
HaveObjectLengths inputs = AllByRecursion (λ input. input.1 ≤ max_size) inputs
