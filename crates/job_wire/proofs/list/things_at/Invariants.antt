use Rattle.std.proofs.Common.{◌≡◌, ◌-◌}
use Rattle.text_lines.proofs.PublicLaws.{with_prefix}
use Rattle.job_wire.specs.Reading.{things_at}
use Rattle.job_wire.proofs.list.things_at.Given as goal

abbrev pub invariant-things : goal.invariant-things
invariant-things g l = with_prefix l.things (things_at g.T.Field.at (l.number - l.counter) l.rest) ≡ things_at g.T.Field.at l.number l.bytes
