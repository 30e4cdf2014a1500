use Rattle.std.proofs.Common.{ap, List}
use Rattle.lease_table.specs.declared.row.Row.{Row}
use Rattle.lease_table.specs.Table.{choice}
use Rattle.force_core.proofs.Counts.{history-counted, counted-scratch}
use Rattle.force_core.proofs.laws.choice_is_from_all_leases.Goals as goal

pub returns : goal.returns
returns c = λ workers retries copies es t some legal. ap (λ (rows : List Row). choice copies rows) (counted-scratch t.table (history-counted workers retries copies es t some legal))
