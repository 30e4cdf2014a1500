use Rattle.gg_cli.proofs.endings.end.Goals as goal

pub returns-in-ToolFailed-clause-line : goal.returns-in-ToolFailed-clause-line
returns-in-ToolFailed-clause-line g c = rw c.in-ToolFailed.is c.write_tool_line.ensures

pub returns-in-Clash-clause-line : goal.returns-in-Clash-clause-line
returns-in-Clash-clause-line g c = rw c.in-Clash.is c.write_line-in-Clash.ensures

pub returns-in-InputTooLong-clause-line : goal.returns-in-InputTooLong-clause-line
returns-in-InputTooLong-clause-line g c = rw c.in-InputTooLong.is c.write_line-in-InputTooLong.ensures

pub returns-in-StoreFailed-clause-line : goal.returns-in-StoreFailed-clause-line
returns-in-StoreFailed-clause-line g c = rw c.in-StoreFailed.is c.write_line-in-StoreFailed.ensures

pub returns-in-FileFailed-clause-line : goal.returns-in-FileFailed-clause-line
returns-in-FileFailed-clause-line g c = rw c.in-FileFailed.is c.write_line-in-FileFailed.ensures

pub returns-in-InputFailed-clause-line : goal.returns-in-InputFailed-clause-line
returns-in-InputFailed-clause-line g c = rw c.in-InputFailed.is c.write_line-in-InputFailed.ensures

pub returns-in-OutputFailed-clause-line : goal.returns-in-OutputFailed-clause-line
returns-in-OutputFailed-clause-line g c = rw c.in-OutputFailed.is c.write_line-in-OutputFailed.ensures
