-- Names of values.
use Rattle.std.specs.Prelude.{List}
use Rattle.object_name.specs.Name.{ObjectName}
use Rattle.thunk_codec.specs.Resolved.{HaveValueKind}

-- all names are of values
pub record AreValues (names : List ObjectName) : Type 0 where
  pub kinds : HaveValueKind names
