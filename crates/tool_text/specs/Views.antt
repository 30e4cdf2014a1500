-- What the private types of the preprocessor hold, as its definitions see it. Only the contracts of private functions cite these views.
use Rattle.std.specs.Prelude.{List, Option, bytes_eq, reverse}
use Rattle.std.specs.HashMap.{get_by}
use Rattle.std.specs.Option.{option_map}
use Rattle.tool_text.specs.declared.directive.Target.{Target as Borrowed}
use Rattle.tool_text.specs.declared.groups.Group.{Group}
use Rattle.tool_text.specs.declared.groups.Groups.{Groups}
use Rattle.tool_text.specs.declared.macros.MacroTable.{MacroTable}
use Rattle.tool_text.specs.declared.settings.Settings.{Settings as HeldSettings}
use Rattle.tool_text.specs.declared.state.State.{State as HeldState}
use Rattle.tool_text.specs.Cpp.{Settings}
use Rattle.tool_text.specs.Expand.{Macros}
use Rattle.tool_text.specs.Preprocess.{State, Taken}
use Rattle.tool_text.specs.Seen.{target_seen}

-- the text of an identifier, where the table has it
abbrev pub macros_of : MacroTable → Macros
macros_of table = λ name. get_by (λ key. bytes_eq name key.items) table.texts

-- the open groups, the innermost first
abbrev pub groups_of : Groups → List Group
groups_of groups = reverse groups.open.items

-- what is defined, how many lines were processed, what was written
abbrev pub state_of : HeldState → State
state_of held = record { macros = macros_of held.macros; count = held.count; out = held.out }

-- what a line leaves
abbrev pub taken_of : Groups → HeldState → Option Borrowed → Taken
taken_of groups held target = record { groups = groups_of groups; state = state_of held; target = option_map target_seen target }

-- the include folders and what is defined, as arguments set them
abbrev pub settings_of : HeldSettings → Settings
settings_of held = record { folders = held.folders; macros = macros_of held.macros }
