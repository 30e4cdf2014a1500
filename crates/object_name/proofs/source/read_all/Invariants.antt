use Rattle.std.proofs.Common.{◌≡◌, ◌≤◌, ◌-◌, ◌+◌, length}
use Rattle.std.specs.Io.KnownBytes.{Consumes}
use Rattle.object_name.proofs.source.read_all.Given as goal

abbrev pub invariant-pieces : goal.invariant-pieces
invariant-pieces g l = record {
  within : length l.bytes ≤ l.limit;
  lost : Consumes (g.S.Source.left l.initial.source) (g.S.Source.left l.source) l.bytes;
  faults : g.S.Source.faults l.source ≡ g.S.Source.faults l.initial.source;
  reads : g.S.Source.reads l.source ≤ g.S.Source.reads l.initial.source + length l.bytes;
}

abbrev pub decreases-pieces : goal.decreases-pieces
decreases-pieces g l = l.limit - length l.bytes
