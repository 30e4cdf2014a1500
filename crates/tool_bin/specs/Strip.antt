-- The card `strip`: an object or an executable without its debug lines.
use Rattle.std.specs.Prelude.{ℕ, List, [], Option, Some}
use Rattle.std.specs.Option.{option_or}
use Rattle.thunk_codec.specs.declared.job.Job.{Job}
use Rattle.thunk_codec.specs.declared.job.Outcome.{Outcome}
use Rattle.text_lines.specs.Maybe.{◌>>=◌}
use Rattle.tool_bin.specs.declared.object.Object.{Object}
use Rattle.tool_bin.specs.Object.{object_head, executable_head, object_text}
use Rattle.tool_bin.specs.ObjectReading.{object_of}
use Rattle.tool_bin.specs.OneOutput.{plain_source_of, made_outcome}

-- an object without its debug lines
abbrev pub without_debug : Object → Object
without_debug object = record { symbols = object.symbols; debug = [] }

-- the text of an object with this first line without its debug lines
abbrev pub stripped_with : List ℕ → List ℕ → Option (List ℕ)
stripped_with head source = do
  object ← object_of head source
  Some (object_text head (without_debug object))

-- the same, be it an object or an executable
abbrev pub stripped : List ℕ → Option (List ℕ)
stripped source = option_or (stripped_with object_head source) (stripped_with executable_head source)

-- no arguments, one input and one output, else status 64; status 86 for what is neither
abbrev pub strip_outcome : Job → Outcome
strip_outcome job = made_outcome 86 stripped (plain_source_of job)
