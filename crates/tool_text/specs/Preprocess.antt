-- Preprocessing: directives are followed, and the other lines of active groups are written with their identifiers replaced.
use Rattle.std.specs.Prelude.{ℕ, suc, zero, ◌+◌, List, [], ◌∷◌, ◌++◌, ◌==◌, ◌&&◌, nat_le, not, Bool, true, false, Option, Some, None, Result, Ok, Err, length, unwrap_or, if◌then◌else◌}
use Rattle.std.specs.Option.{is_some}
use Rattle.object_name.specs.Name.{max_size}
use Rattle.thunk_codec.specs.Files.{Files}
use Rattle.text_lines.specs.Lines.{lines_of}
use Rattle.tool_text.specs.declared.failure.Failure.{Failure}
use Rattle.tool_text.specs.declared.failure.Failure.TheVariants.{BadDirective, HeaderNotFound, TooDeep, TooManyLines, OutputTooLong}
use Rattle.tool_text.specs.declared.groups.Group.{Group}
use Rattle.tool_text.specs.Directive.{Directive, Text, Empty, Include, Define, Undef, Ifdef, Ifndef, If, Else, Endif, Unknown, Target, directive_of}
use Rattle.tool_text.specs.Expand.{Macros, with_macro, expanded}
use Rattle.tool_text.specs.Including.{candidates, first_there}
use Rattle.tool_text.specs.Trying.{◌>>=◌, given}

-- what is defined, how many lines were processed, what was written
pub record State : Type 0 where
  pub macros : Macros
  pub count : ℕ
  pub out : List ℕ

-- what a line leaves: the open groups of its file, the innermost first, the state, and the file that is to be processed in its place
pub record Taken : Type 0 where
  pub groups : List Group
  pub state : State
  pub target : Option Target

-- whether lines are written and directives have their effect
abbrev pub is_active : List Group → Bool
is_active [] = true
is_active (group ∷ groups) = group.active

-- one more line, at most 1,048,576
unfoldable pub counted : State → Result State Failure
counted state = given (nat_le (state.count + 1) 1048576) TooManyLines (record state { count = state.count + 1 })

-- a line written, with a line feed
unfoldable pub written : List ℕ → State → Result State Failure
written line state = let out = state.out ++ (expanded state.macros line ++ 10 ∷ []) in
    given (nat_le (length out) max_size) OutputTooLong (record state { out = out })

-- a group begun
abbrev pub begun : Bool → List Group → List Group
begun active groups = record { around = is_active groups; active = active; had_else = false } ∷ groups

-- the innermost group turned by its `else`, of which there is one at most
abbrev pub turned : Bool → List Group → Result (List Group) Failure
turned of_form [] = Err BadDirective
turned of_form (group ∷ groups) = given (of_form && not group.had_else) BadDirective
    (record { around = group.around; active = group.around && not group.active; had_else = true } ∷ groups)

-- the innermost group ended
abbrev pub ended : Bool → List Group → Result (List Group) Failure
ended of_form [] = Err BadDirective
ended of_form (group ∷ groups) = given of_form BadDirective groups

-- a line that leaves these groups and this state, and goes into no file
abbrev pub going_on : List Group → State → Taken
going_on groups state = record { groups = groups; state = state; target = None }

-- with one identifier defined, or forgotten
abbrev pub with_name : List ℕ → Option (List ℕ) → State → State
with_name name text state = record state { macros = with_macro name text state.macros }

-- the effect of a line in an active group
unfoldable pub acted : Directive → List ℕ → List Group → State → Result Taken Failure
acted Text line groups state = written line state >>= λ now. Ok (going_on groups now)
acted Empty line groups state = Ok (going_on groups state)
acted (Include None) line groups state = Err BadDirective
acted (Include (Some target)) line groups state = Ok (record { groups = groups; state = state; target = Some target })
acted (Define None) line groups state = Err BadDirective
acted (Define (Some macro)) line groups state = Ok (going_on groups (with_name macro.0 (Some macro.1) state))
acted (Undef None) line groups state = Err BadDirective
acted (Undef (Some name)) line groups state = Ok (going_on groups (with_name name None state))
acted (Ifdef None) line groups state = Err BadDirective
acted (Ifdef (Some name)) line groups state = Ok (going_on (begun (is_some (state.macros name)) groups) state)
acted (Ifndef None) line groups state = Err BadDirective
acted (Ifndef (Some name)) line groups state = Ok (going_on (begun (not (is_some (state.macros name))) groups) state)
acted (If None) line groups state = Err BadDirective
acted (If (Some number)) line groups state = Ok (going_on (begun (not (number == 0)) groups) state)
acted (Else of_form) line groups state = turned of_form groups >>= λ now. Ok (going_on now state)
acted (Endif of_form) line groups state = ended of_form groups >>= λ now. Ok (going_on now state)
acted Unknown line groups state = Err BadDirective

-- the groups that a line in an inactive group leaves: only these five directives are looked at, three of them by their word alone
unfoldable pub skipped : Directive → List Group → Result (List Group) Failure
skipped (Ifdef name) groups = Ok (begun false groups)
skipped (Ifndef name) groups = Ok (begun false groups)
skipped (If number) groups = Ok (begun false groups)
skipped (Else of_form) groups = turned of_form groups
skipped (Endif of_form) groups = ended of_form groups
skipped Text groups = Ok groups
skipped Empty groups = Ok groups
skipped (Include target) groups = Ok groups
skipped (Define macro) groups = Ok groups
skipped (Undef name) groups = Ok groups
skipped Unknown groups = Ok groups

-- a line that was counted
unfoldable pub stepped : List ℕ → List Group → State → Result Taken Failure
stepped line groups state =
    if is_active groups then acted (directive_of line) line groups state
    else skipped (directive_of line) groups >>= λ now. Ok (going_on now state)

-- a line
unfoldable pub taken : List ℕ → List Group → State → Result Taken Failure
taken line groups state = counted state >>= λ now. stepped line groups now

-- the file that a line goes into, processed
abbrev pub followed : (Target → State → Result State Failure) → Option Target → State → Result State Failure
followed follow None state = Ok state
followed follow (Some target) state = follow target state

-- at the end of a file no group is open
abbrev pub closed : List Group → State → Result State Failure
closed [] state = Ok state
closed (group ∷ groups) state = Err BadDirective

-- the lines of a file in order
abbrev pub ran : (Target → State → Result State Failure) → List (List ℕ) → List Group → State → Result State Failure
ran follow [] groups state = closed groups state
ran follow (line ∷ lines) groups state = taken line groups state >>= λ now.
    followed follow now.target now.state >>= λ next. ran follow lines now.groups next

-- the path of a file that was found
abbrev pub found_or_not : Option (List ℕ) → Result (List ℕ) Failure
found_or_not None = Err HeaderNotFound
found_or_not (Some path) = Ok path

-- a file that is processed in the place of a line: looked for, then entered
abbrev pub going_into : (List ℕ → State → Result State Failure) → Files → List (List ℕ) → List ℕ → Target → State → Result State Failure
going_into enter files folders path target state =
    found_or_not (first_there files (candidates folders path target)) >>= λ found. enter found state

-- a file, with so many levels of files that may still be entered, itself counted
abbrev pub processed : Files → List (List ℕ) → ℕ → List ℕ → State → Result State Failure
processed files folders zero path state = Err TooDeep
processed files folders (suc levels) path state =
    ran (going_into (λ found now. processed files folders levels found now) files folders path) (lines_of (unwrap_or (files path) [])) [] state

-- a source: it has depth 0, and the greatest depth is 200
unfoldable pub preprocessed : Files → List (List ℕ) → Macros → List ℕ → Result State Failure
preprocessed files folders macros source = processed files folders 201 source (record { macros = macros; count = 0; out = [] })
