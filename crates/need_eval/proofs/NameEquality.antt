-- The `==` of names and their order.
use Rattle.std.proofs.Common.{◌≡◌}
use Rattle.std.specs.Ordering.{eq_by_cmp}
use Rattle.object_name.specs.Name.{ObjectName, name_cmp}
use Rattle.object_name.specs.contracts.name.NamePartialEq.TheImpl as name_equality
use Rattle.object_name.specs.contracts.name.NameOrd.TheImpl.Laws.{matches_eq-law}

-- two names are equal by `==` exactly where they tie in the order
pub equality-ties : (a b : ObjectName) → (name_equality.ghosts).eq a b ≡ eq_by_cmp name_cmp a b
equality-ties a b = matches_eq-law a b
