-- What is said of a connection of a worker, by how it ended.
use Rattle.std.specs.Prelude.{ℕ, List, [], ◌++◌, codes, decimal}
use Rattle.worker_link.specs.declared.worker_end.WorkerEnd.{WorkerEnd}
use Rattle.worker_link.specs.declared.worker_end.WorkerEnd.TheVariants.{Ended, Cut, BadFrame, FrameTooLong, TooMuch, SourceFailed, SinkFailed, RunFailed, Memory}
use Rattle.gg_cli.specs.Endings.{fault_line}

-- the line of an end: none where the other side ended the session
abbrev pub end_line : WorkerEnd → List ℕ
end_line Ended = []
end_line Cut = fault_line (codes "connection cut")
end_line (BadFrame at) = fault_line (codes "bad frame at " ++ decimal at)
end_line (FrameTooLong at len) = fault_line (codes "frame too long at " ++ decimal at)
end_line TooMuch = fault_line (codes "session too long")
end_line SourceFailed = fault_line (codes "input fault")
end_line SinkFailed = fault_line (codes "output fault")
end_line RunFailed = fault_line (codes "child fault")
end_line Memory = fault_line (codes "want of memory")
