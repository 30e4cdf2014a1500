-- The parts that a text lists, before the rules on them are looked at.
use Rattle.std.specs.List.{AllByRecursion}
use Rattle.thunk_codec.specs.declared.parts.RawParts.{RawParts}
use Rattle.thunk_codec.specs.Reference.{IsRef}
use Rattle.thunk_codec.specs.Thunk.{Parts}

-- the parts
abbrev pub parts_of : RawParts → Parts
parts_of raw = record { function = raw.function; args = raw.args; envs = raw.envs; inputs = raw.inputs; outputs = raw.outputs }

-- the REFs are REFs
pub record HasRefs (t : Parts) : Type 0 where
  pub function : IsRef t.function
  pub inputs : AllByRecursion (λ input. IsRef input.1) t.inputs
