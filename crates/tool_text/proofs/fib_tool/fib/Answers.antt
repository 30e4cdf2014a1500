use Rattle.std.proofs.Common.{sym}
use Rattle.tool_text.proofs.FibGivesThunks.{gives_thunks}
use Rattle.tool_text.proofs.fib_tool.fib.Goals as goal

pub returns-in_ok-contents_of-in-Some-clause-thunks :
    goal.returns-in_ok-contents_of-in-Some-clause-thunks
returns-in_ok-contents_of-in-Some-clause-thunks c =
    gives_thunks c.args.job.now c.in-Some.asked c.in_ok-contents_of-in-Some.field-0 (sym c.in-Some.ensures) c.in_ok-contents_of-in-Some.ensures.contents c.in_ok-contents_of-in-Some.ensures.rules
