use Rattle.std.proofs.Common.{rules, ◌<◌, ◌≤◌, length, arith}
use Rattle.object_name.specs.Name.{max_size}
use Rattle.tool_text.specs.Views.{state_of}
use Rattle.tool_text.proofs.LineWritten.{above_fails, write_fails, write_fits}
use Rattle.tool_text.proofs.state.State.write_line.Goals as goal

pub returns-in-Err : goal.returns-in-Err
returns-in-Err c = above_fails c.args.line.now (state_of c.args.self.now) c.in-Err.fault c.in-Err.ensures.err

pub returns-then-len : goal.returns-then-len
returns-then-len c =
    let above : max_size < length c.append.new.self = grind arith in
    write_fails c.args.line.now (state_of c.args.self.now) c.expand.new.out c.append.new.self (search rules) c.in_ok-append.ensures.ok above

pub returns : goal.returns
returns c =
    let fits : length c.append.new.self ≤ max_size = grind arith in
    write_fits c.args.line.now (state_of c.args.self.now) c.expand.new.out c.append.new.self (search rules) c.in_ok-append.ensures.ok fits
