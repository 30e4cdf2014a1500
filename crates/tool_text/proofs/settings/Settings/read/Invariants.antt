use Rattle.std.proofs.Common.{◌≡◌, length}
use Rattle.tool_text.specs.Views.{settings_of}
use Rattle.tool_text.specs.Cpp.{with_arguments, no_settings}
use Rattle.tool_text.proofs.settings.Settings.read.Given as goal

abbrev pub invariant-words : goal.invariant-words
invariant-words l = with_arguments l.rest (settings_of l.settings) ≡ with_arguments l.args no_settings

abbrev pub decreases-words : goal.decreases-words
decreases-words l = length l.rest
