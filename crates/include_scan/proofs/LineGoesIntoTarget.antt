-- A line goes into no file but one that it asks for.
use Rattle.std.proofs.Common.{◌≡◌, ℕ, List, [], Bool, true, false, Option, Some, None, Result, Ok, Err, refl, lit<}
use Rattle.std.specs.Prelude.{Contains, if◌then◌else◌}
use Rattle.tool_text.specs.declared.failure.Failure.{Failure}
use Rattle.tool_text.specs.Directive.{Directive, Text, Empty, Include, Define, Undef, Ifdef, Ifndef, If, Else, Endif, Unknown, Target, directive_of}
use Rattle.tool_text.specs.IncludeLine.{include_of}
use Rattle.tool_text.specs.declared.groups.Group.{Group}
use Rattle.tool_text.specs.Preprocess.{State, Taken, counted, written, is_active, turned, ended, going_on, acted, skipped, stepped, taken}
use Rattle.tool_text.specs.Trying.{◌>>=◌}
use Rattle.include_scan.specs.Scanned.{asked_by, line_targets}

-- a file that is asked for, if there is one, is among some
abbrev pub IsAmong : List Target → Option Target → Type 0
IsAmong targets None = Unit {0}
IsAmong targets (Some target) = Contains targets target

-- what a line leaves goes into no file but one of some
abbrev pub GoesInto : List Target → Result Taken Failure → Type 0
GoesInto targets (Ok now) = IsAmong targets now.target
GoesInto targets (Err failure) = Unit {0}

-- a result that goes into no file
nowhere : {A : Type 0} (targets : List Target) (result : Result A Failure) (next : A → Taken) → ((x : A) → (next x).target ≡ None)
    → GoesInto targets (result >>= λ x. Ok (next x))
nowhere targets (Err failure) next none = tt
nowhere targets (Ok x) next none = rw (none x) tt

acted_goes : (d : Directive) (line : List ℕ) (groups : List Group) (state : State) → GoesInto (asked_by (include_of d)) (acted d line groups state)
unfolding acted
acted_goes Text line groups state = nowhere [] (written line state) (λ now. going_on groups now) (λ _. refl)
acted_goes Empty line groups state = tt
acted_goes (Include None) line groups state = tt
acted_goes (Include (Some target)) line groups state = (0, lit< tt, refl)
acted_goes (Define None) line groups state = tt
acted_goes (Define (Some macro)) line groups state = tt
acted_goes (Undef None) line groups state = tt
acted_goes (Undef (Some name)) line groups state = tt
acted_goes (Ifdef None) line groups state = tt
acted_goes (Ifdef (Some name)) line groups state = tt
acted_goes (Ifndef None) line groups state = tt
acted_goes (Ifndef (Some name)) line groups state = tt
acted_goes (If None) line groups state = tt
acted_goes (If (Some number)) line groups state = tt
acted_goes (Else of_form) line groups state = nowhere [] (turned of_form groups) (λ now. going_on now state) (λ _. refl)
acted_goes (Endif of_form) line groups state = nowhere [] (ended of_form groups) (λ now. going_on now state) (λ _. refl)
acted_goes Unknown line groups state = tt

by_activity : (active : Bool) (targets : List Target) (first second : Result Taken Failure) → GoesInto targets first → GoesInto targets second
    → GoesInto targets (if active then first else second)
by_activity true targets first second f s = f
by_activity false targets first second f s = s

stepped_goes : (line : List ℕ) (groups : List Group) (state : State) → GoesInto (line_targets line) (stepped line groups state)
unfolding stepped
stepped_goes line groups state = by_activity (is_active groups) (line_targets line) _ _ (acted_goes (directive_of line) line groups state)
    (nowhere (line_targets line) (skipped (directive_of line) groups) (λ now. going_on now state) (λ _. refl))

after_count : (line : List ℕ) (groups : List Group) (count : Result State Failure)
    → GoesInto (line_targets line) (count >>= λ now. stepped line groups now)
after_count line groups (Err failure) = tt
after_count line groups (Ok now) = stepped_goes line groups now

-- a line goes into no file but one that it asks for
pub taken_goes : (line : List ℕ) (groups : List Group) (state : State) → GoesInto (line_targets line) (taken line groups state)
unfolding taken
taken_goes line groups state = after_count line groups (counted state)
