use Rattle.gg_cli.proofs.endings.end_refused.Goals as goal

pub returns-in-Missing-clause-line : goal.returns-in-Missing-clause-line
returns-in-Missing-clause-line g c = rw c.in-Missing.is c.write_line.ensures

pub returns-in-BadThunk-clause-line : goal.returns-in-BadThunk-clause-line
returns-in-BadThunk-clause-line g c = rw c.in-BadThunk.is c.write_line-in-BadThunk.ensures

pub returns-in-Spent-clause-line : goal.returns-in-Spent-clause-line
returns-in-Spent-clause-line g c = rw c.in-Spent.is (rw c.from-in-Spent.ensures at c.write_line-in-Spent.ensures)

pub returns-in-TooBig-clause-line : goal.returns-in-TooBig-clause-line
returns-in-TooBig-clause-line g c = rw c.in-TooBig.is c.write_line-in-TooBig.ensures

pub returns-in-FunctionFailed-clause-line : goal.returns-in-FunctionFailed-clause-line
returns-in-FunctionFailed-clause-line g c = rw c.in-FunctionFailed.is (rw c.from-in-FunctionFailed.ensures at c.write_line-in-FunctionFailed.ensures)
