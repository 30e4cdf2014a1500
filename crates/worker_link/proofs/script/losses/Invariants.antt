use Rattle.std.specs.Prelude.{◌≡◌, ◌+◌, ◌≤◌, length}
use Rattle.worker_link.specs.Script.{losses}
use Rattle.worker_link.proofs.script.losses.Given as goal

abbrev pub invariant-actions : goal.invariant-actions
invariant-actions l = record {
  sum : l.count + losses l.rest ≡ losses l.actions;
  most : l.count + length l.rest ≤ length l.actions;
}

abbrev pub decreases-actions : goal.decreases-actions
decreases-actions l = length l.rest
