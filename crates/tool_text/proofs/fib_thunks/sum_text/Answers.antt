use Rattle.std.proofs.Common.{arith}
use Rattle.tool_text.proofs.FibTextsWritten.{sum_written}
use Rattle.tool_text.proofs.FibGivesThunks.{sum_is_thunk}
use Rattle.tool_text.proofs.fib_thunks.sum_text.Goals as goal

pub returns-clause-text : goal.returns-clause-text
returns-clause-text c =
    sum_written c.args.asked.now c.args.left.now c.args.right.now c.in_ok-text.text c.write_name.new.out c.append.new.self c.write_name-2.new.out c.append-2.new.self c.write_name-3.new.out c.append-3.new.self
    c.in_ok-text.ensures c.in_ok-write_name.ensures.text c.in_ok-append.ensures.ok c.in_ok-write_name-2.ensures.text c.in_ok-append-2.ensures.ok c.in_ok-write_name-3.ensures.text c.in_ok-append-3.ensures.ok

pub returns-clause-rules : goal.returns-clause-rules
returns-clause-rules c add left right =
    sum_is_thunk c.args.asked.now c.args.left.now c.args.right.now (c.write_name.ensures.name, add) (c.write_name-2.ensures.name, left, omega arith) (c.write_name-3.ensures.name, right, omega arith)
