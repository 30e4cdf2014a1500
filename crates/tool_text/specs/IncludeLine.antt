-- What a line says of another file, for a look at a file before it is processed.
use Rattle.std.specs.Prelude.{Some, None}
use Rattle.tool_text.specs.Directive.{Target, Directive, Include}

-- another line, a line that asks for a file, or an include line of another form
pub data IncludeForm : Type 0 where
  Other : IncludeForm
  Includes : Target → IncludeForm
  Computed : IncludeForm

-- what the directive of a line says of another file
abbrev pub include_of : Directive → IncludeForm
include_of (Include (Some target)) = Includes target
include_of (Include None) = Computed
include_of directive = Other
