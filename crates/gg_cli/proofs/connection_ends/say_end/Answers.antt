use Rattle.gg_cli.proofs.connection_ends.say_end.Goals as goal

pub returns-in-Cut : goal.returns-in-Cut
returns-in-Cut g c = rw c.in-Cut.is c.write_line.ensures

pub returns-in-BadFrame : goal.returns-in-BadFrame
returns-in-BadFrame g c = rw c.in-BadFrame.is c.write_line-in-BadFrame.ensures

pub returns-in-FrameTooLong : goal.returns-in-FrameTooLong
returns-in-FrameTooLong g c = rw c.in-FrameTooLong.is c.write_line-in-FrameTooLong.ensures

pub returns-in-TooMuch : goal.returns-in-TooMuch
returns-in-TooMuch g c = rw c.in-TooMuch.is c.write_line-in-TooMuch.ensures

pub returns-in-SourceFailed : goal.returns-in-SourceFailed
returns-in-SourceFailed g c = rw c.in-SourceFailed.is c.write_line-in-SourceFailed.ensures

pub returns-in-SinkFailed : goal.returns-in-SinkFailed
returns-in-SinkFailed g c = rw c.in-SinkFailed.is c.write_line-in-SinkFailed.ensures

pub returns-in-RunFailed : goal.returns-in-RunFailed
returns-in-RunFailed g c = rw c.in-RunFailed.is c.write_line-in-RunFailed.ensures

pub returns-in-Memory : goal.returns-in-Memory
returns-in-Memory g c = rw c.in-Memory.is c.write_line-in-Memory.ensures
