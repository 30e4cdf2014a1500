-- Cutting a session into frames, in whatever pieces its bytes come.
use Rattle.std.specs.Prelude.{◌≡◌, ℕ, ◌+◌, ◌≤◌, List, ◌++◌, length, drop, Option, Some, None, Result, Ok, Err}
use Rattle.std.specs.List.{flat_map, AllByRecursion}
use Rattle.job_wire.specs.declared.message.Message.{Message}
use Rattle.job_wire.specs.declared.cutter.CutFault.{CutFault}
use Rattle.job_wire.specs.declared.cutter.CutFault.TheVariants.{FrameTooLong, BadFrame, Memory}
use Rattle.job_wire.specs.declared.front.Found.{Found}
use Rattle.job_wire.specs.declared.front.Found.TheVariants as found
use Rattle.job_wire.specs.Frame.{frame, IsMessage}
use Rattle.job_wire.specs.Session.{Short, TooLong, Bad, Whole, front, Session}

-- how many bytes of a session were cut away, and the bytes after them that came so far
pub record Cutting : Type 0 where
  pub at : ℕ
  pub kept : List ℕ

-- cutting the next frame away answers what stands at the front of the bytes kept, and takes a message's frame from them
abbrev pub Cuts : Cutting → Cutting → Result (Option Message) CutFault → Type 0
Cuts old new (Ok (Some message)) = (front old.kept ≡ Whole message new.kept) × (new.at ≡ old.at + length (frame message))
Cuts old new (Ok None) = (front old.kept ≡ Short) × (new ≡ old)
Cuts old new (Err (FrameTooLong at len)) = (front old.kept ≡ TooLong len) × (at ≡ old.at) × (new ≡ old)
Cuts old new (Err (BadFrame at)) = (front old.kept ≡ Bad) × (at ≡ old.at) × (new ≡ old)
Cuts old new (Err Memory) = new ≡ old

-- a message that is answered has a frame, which stood before the bytes kept
abbrev pub TakesFrame : Cutting → Cutting → Result (Option Message) CutFault → Type 0
TakesFrame old new (Ok (Some message)) = IsMessage message × (old.kept ≡ frame message ++ new.kept)
TakesFrame old new other = Unit {0}

-- a message whose frame, of this length, stands at the front of some bytes
pub record IsFront (message : Message) (size : ℕ) (bytes : List ℕ) : Type 0 where
  pub stands : front bytes ≡ Whole message (drop size bytes)
  pub there : size ≤ length bytes
  pub whole : size ≡ length (frame message)
  pub rules : IsMessage message
  pub parts : bytes ≡ frame message ++ drop size bytes

-- what was found at the front of some bytes stands there, unless memory was refused
abbrev pub Sees : Found → List ℕ → Type 0
Sees found.Short bytes = front bytes ≡ Short
Sees (found.TooLong len) bytes = front bytes ≡ TooLong len
Sees found.Bad bytes = front bytes ≡ Bad
Sees found.Memory bytes = Unit {0}
Sees (found.Whole message size) bytes = IsFront message size bytes

-- the bytes fed so far are the frames of the messages given so far, and the bytes kept
pub record IsCut (fed : List ℕ) (given : List Message) (cutting : Cutting) : Type 0 where
  pub rules : AllByRecursion IsMessage given
  pub taken : fed ≡ flat_map frame given ++ cutting.kept
  pub at : cutting.at ≡ length (flat_map frame given)

-- messages before others
abbrev pub first_before : List Message → Session → Session
first_before messages session = record { messages = messages ++ session.messages; end = session.end }
