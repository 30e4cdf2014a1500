use Rattle.tool_text.proofs.FibGivesThunks.{fib_is_thunk, sum_is_thunk}
use Rattle.tool_text.proofs.laws.fib_gives_thunks.Goals as goal

pub returns-clause-smaller : goal.returns-clause-smaller
returns-clause-smaller c = fib_is_thunk

pub returns-clause-sum : goal.returns-clause-sum
returns-clause-sum c = sum_is_thunk
