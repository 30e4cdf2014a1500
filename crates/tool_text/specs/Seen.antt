-- What the forms that borrow from a line say.
use Rattle.std.specs.Option.{option_map, option_copied}
use Rattle.tool_text.specs.declared.directive.Target.{Target as Borrowed}
use Rattle.tool_text.specs.declared.directive.Target.TheVariants as target
use Rattle.tool_text.specs.declared.directive.Directive.{Directive as BorrowedDirective}
use Rattle.tool_text.specs.declared.directive.Directive.TheVariants as line
use Rattle.tool_text.specs.declared.include_lines.IncludeLine.{IncludeLine as BorrowedLine}
use Rattle.tool_text.specs.declared.include_lines.IncludeLine.TheVariants as file
use Rattle.tool_text.specs.IncludeLine.{IncludeForm, Other, Includes, Computed}
use Rattle.tool_text.specs.Directive.{Target, Quoted, Angled, Directive, Text, Empty, Include, Define, Undef, Ifdef, Ifndef, If, Else, Endif, Unknown}

-- the file that is asked for
abbrev pub target_seen : Borrowed → Target
target_seen (target.Quoted file) = Quoted file.now
target_seen (target.Angled file) = Angled file.now

-- what the directive says
abbrev pub seen : BorrowedDirective → Directive
seen line.Text = Text
seen line.Empty = Empty
seen (line.Include target) = Include (option_map target_seen target)
seen (line.Define macro) = Define (option_map (λ m. (m.0.now, m.1.now)) macro)
seen (line.Undef name) = Undef (option_copied name)
seen (line.Ifdef name) = Ifdef (option_copied name)
seen (line.Ifndef name) = Ifndef (option_copied name)
seen (line.If number) = If number
seen (line.Else of_form) = Else of_form
seen (line.Endif of_form) = Endif of_form
seen line.Unknown = Unknown

-- what a line says of another file
abbrev pub include_seen : BorrowedLine → IncludeForm
include_seen file.Other = Other
include_seen (file.Quoted name) = Includes (Quoted name.now)
include_seen (file.Angled name) = Includes (Angled name.now)
include_seen file.Computed = Computed
