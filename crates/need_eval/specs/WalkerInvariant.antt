-- What a walker waits for, and what it keeps in order: its own invariant.
use Rattle.std.specs.Prelude.{ℕ, ◌+◌, List, [], ◌∷◌, length, ◌==◌, ◌&&◌, Bool, true, false, Option, Some, None}
use Rattle.std.specs.List.{list_all}
use Rattle.object_name.specs.declared.kind.Kind.{Kind}
use Rattle.object_name.specs.declared.kind.Kind.TheVariants as kinds
use Rattle.object_name.specs.Name.{ObjectName}
use Rattle.thunk_codec.specs.declared.reference.Ref.{Ref}
use Rattle.thunk_codec.specs.declared.reference.Ref.TheVariants.{Value, Out}
use Rattle.thunk_codec.specs.Resolved.{refs_of}
use Rattle.need_eval.specs.declared.frame.Frame.{Frame}
use Rattle.need_eval.specs.declared.stage.Stage.{Stage}
use Rattle.need_eval.specs.declared.stage.Stage.TheVariants as stages
use Rattle.need_eval.specs.declared.waiting.Waiting.{Waiting}

-- the job that is waited for, with the name of its note
abbrev pub waiting_in : Stage → Option Waiting
waiting_in stages.Walking = None
waiting_in stages.Turning = None
waiting_in (stages.Blocked waiting) = Some waiting
waiting_in stages.Ended = None

-- whether a walker at this stage is over
abbrev pub is_end : Stage → Bool
is_end stages.Walking = false
is_end stages.Turning = false
is_end (stages.Blocked waiting) = false
is_end stages.Ended = true

-- whether a thunk was entered and all values that were wanted for it are there
abbrev pub is_inside : List Frame → List Ref → Bool
is_inside [] rest = false
is_inside (inner ∷ outer) [] = true
is_inside (inner ∷ outer) (next ∷ rest) = false

-- whether a walker at this stage has what it needs: one that waits at a job is inside that job's thunk
abbrev pub is_ready : Stage → List Frame → List Ref → Bool
is_ready stages.Walking frames rest = true
is_ready stages.Turning frames rest = true
is_ready (stages.Blocked waiting) frames rest = is_inside frames rest
is_ready stages.Ended frames rest = true

-- whether this is the kind of values
abbrev pub is_value_kind : Kind → Bool
is_value_kind kinds.Value = true
is_value_kind kinds.Thunk = false

-- whether a REF to a value has the name of one
abbrev pub has_right_kind : Ref → Bool
has_right_kind (Value name) = is_value_kind name.kind
has_right_kind (Out name index) = true

-- whether what is gathered are names of values and such REFs
abbrev pub is_gathered : List ObjectName → List Ref → Bool
is_gathered done rest = list_all (λ name. is_value_kind name.kind) done && list_all has_right_kind rest

-- whether the numbers are those of the REFs of the thunks that were entered: this many are gathered now, and round each thunk
-- one more than there are, which is the thunk itself
abbrev pub fit_thunks : List Frame → ℕ → Bool
fit_thunks [] number = true
fit_thunks (inner ∷ outer) number =
    (number == length (refs_of inner.thunk)) && fit_thunks outer (length inner.outer.done + length inner.outer.rest.items + 1)

-- whether all that is gathered fits
abbrev pub is_sound : List Frame → List ObjectName → List Ref → Bool
is_sound frames done rest =
    is_gathered done rest
    && (list_all (λ frame. is_gathered frame.outer.done frame.outer.rest.items) frames
    && fit_thunks frames (length done + length rest))
