use Rattle.std.proofs.Common.{◌≡◌, ℕ, List, Option, Some, None, sym, ap, subst, ◌∙◌, arith}
use Rattle.std.specs.Prelude.{slice_get}
use Rattle.std.proofs.lemmas.Option.{slice_get_within}
use Rattle.worker_link.specs.declared.action.Action.{Action}
use Rattle.worker_link.specs.Script.{Script, first_action, after_action}
use Rattle.worker_link.proofs.Scripts.{next_action, next_script, none_left, done_script}
use Rattle.worker_link.proofs.script.Script.next.Goals as goal

none_at : (c : goal.In_default) → slice_get c.self.inside.actions c.self.inside.taken ≡ None
none_at c = ap (λ (v : List Action). slice_get v c.self.inside.taken) (sym c.as_slice.ensures) ∙ sym c.action_at.ensures ∙ c.in_default.is

one_at : (c : goal.After-self-1) → slice_get c.self.inside.actions c.self.inside.taken ≡ Some c.in-Some.action
one_at c = ap (λ (v : List Action). slice_get v c.self.inside.taken) (sym c.as_slice.ensures) ∙ sym c.action_at.ensures ∙ c.in-Some.is

pub returns-in_default-clause-action : goal.returns-in_default-clause-action
returns-in_default-clause-action c =
    ap first_action (sym (none_left c.self.inside.actions c.self.inside.taken (none_at c))) ∙ ap (λ (s : Script). first_action s.left) c.self.view_is

pub returns-in_default-clause-after : goal.returns-in_default-clause-after
returns-in_default-clause-after c =
    subst (λ (s : Script). s ≡ after_action s.taken s.left) c.self.view_is (done_script c.self.inside.actions c.self.inside.taken (none_at c))

pub invariant_of-self : goal.invariant_of-self
invariant_of-self c = omega (arith, slice_get_within c.self.inside.actions c.self.inside.taken c.in-Some.action (one_at c))

pub returns-clause-action : goal.returns-clause-action
returns-clause-action c =
    next_action c.self.inside.actions c.self.inside.taken c.in-Some.action (one_at c) ∙ ap (λ (s : Script). first_action s.left) c.self.view_is

pub returns-clause-after : goal.returns-clause-after
returns-clause-after c =
    next_script c.self.inside.actions c.self.inside.taken c.in-Some.action (one_at c) ∙ ap (λ (s : Script). after_action s.taken s.left) c.self.view_is
