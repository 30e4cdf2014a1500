-- Scripts: their next actions, and the calls that these fail.
use Rattle.std.proofs.Common.{◌≡◌, ℕ, zero, suc, ◌+◌, ◌-◌, ◌^◌, ◌≤◌, List, [], ◌∷◌, ◌++◌, take, drop, Option, Some, None, Result, Ok, Err, inl, inr, refl, sym, ap, subst, ◌∙◌, arith}
use Rattle.std.specs.Prelude.{slice_get}
use Rattle.std.proofs.lemmas.List.{drop_more, take_more}
use Rattle.std.proofs.lemmas.Option.{slice_get_within, get_or_from_slice_get}
use Rattle.std.proofs.Math.Nat.{min-le_left}
use Rattle.object_name.specs.Causes.{HasCause}
use Rattle.object_name.specs.declared.trouble.Trouble.{Trouble}
use Rattle.object_name.specs.declared.trouble.Trouble.TheVariants.{Failed, Memory}
use Rattle.thunk_codec.specs.declared.job.Outcome.{Outcome}
use Rattle.worker_link.specs.declared.action.Action.{Action}
use Rattle.worker_link.specs.declared.action.Action.TheVariants.{Answer, Lose, Delay, Repeat}
use Rattle.worker_link.specs.Script.{Script, first_action, after_action, loss, losses, Acts}

-- the actions that are left begin with the one at this place
left_is : (actions : List Action) (taken : ℕ) (action : Action) → slice_get actions taken ≡ Some action → drop taken actions ≡ action ∷ drop (taken + 1) actions
left_is actions taken action e =
    drop_more actions taken action (slice_get_within actions taken action e) ∙ ap (λ (v : Action). v ∷ drop (taken + 1) actions) (get_or_from_slice_get actions taken action action e)

-- the next action is the one at this place
pub next_action : (actions : List Action) (taken : ℕ) (action : Action) → slice_get actions taken ≡ Some action → action ≡ first_action (drop taken actions)
next_action actions taken action e = sym (ap first_action (left_is actions taken action e))

-- after it one more is taken
pub next_script : (actions : List Action) (taken : ℕ) (action : Action) → slice_get actions taken ≡ Some action → record { taken = take (taken + 1) actions; left = drop (taken + 1) actions } ≡ after_action (take taken actions) (drop taken actions)
next_script actions taken action e =
    let more : take (taken + 1) actions ≡ take taken actions ++ action ∷ [] =
    take_more actions taken action (slice_get_within actions taken action e) ∙ ap (λ (v : Action). take taken actions ++ v ∷ []) (get_or_from_slice_get actions taken action action e) in
    ap (λ (v : List Action). record { taken = v; left = drop (taken + 1) actions }) more ∙ sym (ap (after_action (take taken actions)) (left_is actions taken action e))

-- where no action has this place, none is left
pub none_left : (actions : List Action) (taken : ℕ) → slice_get actions taken ≡ None → drop taken actions ≡ []
none_left [] zero e = refl
none_left [] (suc taken) e = refl
none_left (action ∷ actions) zero e = absurd cc
none_left (action ∷ actions) (suc taken) e = none_left actions taken e

-- and the script stays
pub done_script : (actions : List Action) (taken : ℕ) → slice_get actions taken ≡ None → record { taken = take taken actions; left = drop taken actions } ≡ after_action (take taken actions) (drop taken actions)
done_script actions taken e =
    subst (λ (left : List Action). record { taken = take taken actions; left = left } ≡ after_action (take taken actions) left) (sym (none_left actions taken e)) refl

losses-push : (taken : List Action) (action : Action) → losses (taken ++ action ∷ []) ≡ losses taken + loss action
losses-push [] action = omega arith
losses-push (first ∷ taken) action = omega (arith, losses-push taken action)

-- the next action fails as many calls more
losses_after : (taken left : List Action) → losses (after_action taken left).taken ≡ losses taken + loss (first_action left)
losses_after taken [] = omega arith
losses_after taken (action ∷ left) = losses-push taken action

ok_not_err : {A B P : Type 0} (a : A) (b : B) (r : Result A B) → r ≡ Ok a → r ≡ Err b → P
ok_not_err a b r ok err = absurd cc

memory_not_failed : {A P : Type 0} (r : Result A Trouble) → r ≡ Err Memory → r ≡ Err Failed → P
memory_not_failed r memory failed = absurd cc

-- an action fails a call exactly where it counts one
acted_cause : (action : Action) (count : ℕ) (reply : ℕ × Outcome) (result : Result (ℕ × Outcome) Trouble) (held : Option (ℕ × Outcome)) → Acts action reply result held → HasCause count (count + loss action) result
acted_cause Answer count reply result held h = record { later = omega arith; failed = λ e. ok_not_err reply Failed result h.0 e; most = rw h.0 (omega arith) }
acted_cause Lose count reply result held h = record { later = omega arith; failed = λ e. omega (arith, min-le_left (count + 0 + 1) (2 ^ 64 - 1)); most = rw h.0 (omega arith) }
acted_cause Delay count reply result held h = record { later = omega arith; failed = λ e. omega (arith, min-le_left (count + 0 + 1) (2 ^ 64 - 1)); most = rw h.0 (omega arith) }
acted_cause Repeat count reply result held (inl h) = record { later = omega arith; failed = λ e. ok_not_err reply Failed result h.0 e; most = rw h.0 (omega arith) }
acted_cause Repeat count reply result held (inr h) = record { later = omega arith; failed = λ e. memory_not_failed result h.0 e; most = rw h.0 (omega arith) }

-- the count of a link is its runner's and that of the actions taken: it rises where the next action fails a call
pub script_cause : (runs after : ℕ) (taken left : List Action) (script : Script) (action : Action) (reply : ℕ × Outcome) (result : Result (ℕ × Outcome) Trouble) (held : Option (ℕ × Outcome)) → runs ≤ after → after ≤ runs + 0 → script ≡ after_action taken left → action ≡ first_action left → Acts action reply result held
    → HasCause (runs + losses taken) (after + losses script.taken) result
script_cause runs after taken left script action reply result held later most next first acts =
    let more : after + losses script.taken ≡ (runs + losses taken) + loss action =
    omega (arith, later, most, ap (λ (s : Script). losses s.taken) next, losses_after taken left, ap loss first) in
    subst (λ (count : ℕ). HasCause (runs + losses taken) count result) (sym more) (acted_cause action (runs + losses taken) reply result held acts)
