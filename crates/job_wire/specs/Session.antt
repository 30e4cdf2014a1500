-- Sessions: what some bytes are as frames, one after another.
use Rattle.std.specs.Prelude.{ℕ, zero, suc, ◌+◌, List, [], ◌∷◌, length, take, drop, nat_le, nat_lt, Option, Some, None, if◌then◌else◌}
use Rattle.job_wire.specs.declared.message.Message.{Message}
use Rattle.job_wire.specs.Frame.{max_contents, frame}
use Rattle.job_wire.specs.Reading.{count_at, message_of}

-- what stands at the front of some bytes: less than a frame; a length over the limit; a whole frame, but of no message; or the
-- frame of a message, with the bytes after it
pub data Front : Type 0 where
  Short : Front
  TooLong : ℕ → Front
  Bad : Front
  Whole : Message → List ℕ → Front

-- a whole frame, by the message that its contents are
abbrev pub read_as : Option Message → List ℕ → Front
read_as None rest = Bad
read_as (Some message) rest = Whole message rest

-- the same by the length at the front, where there is one, and the bytes after it
abbrev pub by_length : Option (ℕ × List ℕ) → Front
by_length None = Short
by_length (Some len) =
    if nat_lt max_contents len.0 then TooLong len.0
    else if nat_le len.0 (length len.1) then read_as (message_of (take len.0 len.1)) (drop len.0 len.1)
    else Short

-- what stands at the front of some bytes
unfoldable pub front : List ℕ → Front
front bytes = by_length (count_at bytes)

-- how a session ends: between frames, inside a frame, or at the place of a frame that can't be read
pub data End : Type 0 where
  AtRest : End
  Cut : End
  BadFrame : ℕ → End
  FrameTooLong : ℕ → ℕ → End

-- the messages of some bytes, and the end after them
pub record Session : Type 0 where
  pub messages : List Message
  pub end : End

-- no more messages
abbrev pub ends : End → Session
ends end = record { messages = []; end = end }

-- a message before others
abbrev pub before : Message → Session → Session
before message session = record { messages = message ∷ session.messages; end = session.end }

-- the end where less than a frame is left
abbrev pub end_of : List ℕ → End
end_of [] = AtRest
end_of (byte ∷ bytes) = Cut

-- the session of bytes of which the first has this place, by what stands at their front, where `next` gives the session of the
-- bytes after a frame
abbrev pub session_by : (ℕ → List ℕ → Session) → ℕ → List ℕ → Front → Session
session_by next at bytes Short = ends (end_of bytes)
session_by next at bytes Bad = ends (BadFrame at)
session_by next at bytes (TooLong len) = ends (FrameTooLong at len)
session_by next at bytes (Whole message rest) = before message (next (at + length (frame message)) rest)

-- the same for so many frames
unfoldable pub session_within : ℕ → ℕ → List ℕ → Session
session_within zero at bytes = ends AtRest
session_within (suc more) at bytes = session_by (session_within more) at bytes (front bytes)

-- the session of bytes of which the first has this place; each frame has bytes, so there are no more frames than bytes
unfoldable pub session_from : ℕ → List ℕ → Session
session_from at bytes = session_within (length bytes) at bytes

-- the session of some bytes
abbrev pub session : List ℕ → Session
session bytes = session_from 0 bytes
