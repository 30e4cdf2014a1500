use Rattle.thunk_codec.specs.Reading.{env_at}
use Rattle.thunk_codec.proofs.Fields.{env_reader}
use Rattle.thunk_codec.proofs.LinesReadSoFar.{lines_go_on, lines_shorten, lines_refused, going_ends}
use Rattle.thunk_codec.proofs.lines.env_lines.Goals as goal

pub returns-in-Err : goal.returns-in-Err
returns-in-Err c = lines_refused c.in-Err.fault 101 env_at c.args.bytes.now c.lines.rest.now c.in-Some.said.now c.lines.lines c.lines.invariant c.in-Some.ensures c.in-Err.ensures

pub lines-smaller : goal.lines-smaller
lines-smaller c = lines_shorten env_reader 101 c.lines.rest.now c.in-Some.said.now c.in-Ok.read.1.now c.in-Ok.read.0 c.in-Some.ensures c.in-Ok.ensures

pub lines-preserved : goal.lines-preserved
lines-preserved c = lines_go_on env_reader 101 c.args.bytes.now c.lines.rest.now c.in-Some.said.now c.in-Ok.read.1.now c.lines.lines c.push.new.self c.in-Ok.read.0 c.lines.invariant c.in-Some.ensures c.in-Ok.ensures c.in_ok-push.ensures.ok

pub returns : goal.returns
returns c = going_ends 101 env_at c.args.bytes.now c.lines.lines c.lines.rest.now c.lines.invariant c.in_default.ensures
