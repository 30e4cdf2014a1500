-- What writing a text to a sink does.
use Rattle.std.specs.Prelude.{ℕ, List, Option, Result, OnOk}
use Rattle.std.specs.Io.KnownBytes.{Appends}
use Rattle.object_name.specs.declared.trouble.Trouble.{Trouble}
use Rattle.object_name.specs.Causes.{HasCause}
use Rattle.object_name.specs.Streams.{AppendsPrefix}

-- all of the text is written, or a prefix of it, and the sink fails only where its count rose
pub record Writes {T : Type 0} (text : List ℕ) (before after : Option (List ℕ)) (faults_before faults_after : ℕ) (result : Result T Trouble) : Type 0 where
  pub whole : OnOk result (Appends before after text)
  pub prefix : AppendsPrefix before after text
  pub cause : HasCause faults_before faults_after result
