-- The lemmas that proofs of other crates cite.

-- what stands at the front of bytes that begin with a message's frame, and what is known where one stands there
pub use Rattle.job_wire.proofs.Sessions.{front_again, front_takes, front_shorter}
-- a bad frame stays bad, and a length over the limit stays so, whatever bytes come after them
pub use Rattle.job_wire.proofs.Sessions.{front_bad_more, front_long_more}
-- the session of bytes, by what stands at their front, and that of a frame before other bytes
pub use Rattle.job_wire.proofs.Sessions.{session_is, session_again}
-- a session that is cut into frames, piece by piece
pub use Rattle.job_wire.proofs.Cuts.{cut_started, cut_fed, cut_taken, cut_session}
-- a frame's contents have a byte at least, and none is over the limit
pub use Rattle.job_wire.proofs.Messages.{contents_some, contents_small}
