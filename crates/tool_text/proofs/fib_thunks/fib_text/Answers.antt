use Rattle.tool_text.proofs.FibTextsWritten.{fib_written, fib_is_short}
use Rattle.tool_text.proofs.FibGivesThunks.{fib_is_thunk}
use Rattle.tool_text.proofs.fib_thunks.fib_text.Goals as goal

pub returns-clause-text : goal.returns-clause-text
returns-clause-text c =
    fib_written c.args.asked.now c.args.number c.in_ok-text.text c.write_name.new.out c.append.new.self c.write_counted.new.out c.append-2.new.self c.write_name-2.new.out c.append-3.new.self
    c.in_ok-text.ensures c.in_ok-write_name.ensures.text c.in_ok-append.ensures.ok c.in_ok-write_counted.ensures c.in_ok-append-2.ensures.ok c.in_ok-write_name-2.ensures.text c.in_ok-append-3.ensures.ok

pub returns-clause-size : goal.returns-clause-size
returns-clause-size c =
    fib_is_short c.args.asked.now c.args.number c.append-3.new.self c.ranges.number.fits c.write_name.ensures.name c.write_name-2.ensures.name (returns-clause-text c)

pub returns-clause-rules : goal.returns-clause-rules
returns-clause-rules c function add =
    fib_is_thunk c.args.asked.now c.args.number (c.write_name.ensures.name, function) (c.write_name-2.ensures.name, add) c.ranges.number.fits
