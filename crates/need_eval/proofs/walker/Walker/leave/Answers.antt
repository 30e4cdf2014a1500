use Rattle.std.proofs.Common.{◌≡◌, refl, sym, ap, subst, ◌∙◌, ◌∷◌, ◌++◌}
use Rattle.std.specs.Prelude.{IsTrue, Some, option_to_list, if◌then◌else◌}
use Rattle.need_eval.specs.WalkerInvariant.{is_sound}
use Rattle.need_eval.specs.Walking.{reduced_at}
use Rattle.need_eval.proofs.NameEquality.{equality-ties}
use Rattle.need_eval.proofs.WalkerStaysSound.{sound-leave}
use Rattle.need_eval.proofs.walker.Walker.leave.Goals as goal

pub invariant_of-self-2-clause-sound : goal.invariant_of-self-2-clause-sound
invariant_of-self-2-clause-sound c =
    let w = c.args.self.now in
    let inner = c.unwrap-inner.result in
    let outer = c.pop_front.new.self.items in
    let frames : w.frames.items ≡ inner ∷ outer =
    sym (ap (λ frames. frames.items) c.replace-frames.ensures.value) ∙ c.pop_front.ensures.items ∙ ap (λ found. option_to_list found ++ outer) c.unwrap-inner.ensures in
    (λ i. is_sound outer inner.outer.done (c.in_ok-push_front.ensures.items i))
    ∙ sound-leave inner outer w.level.done w.level.rest.items inner.name inner.index (subst (λ frames. IsTrue (is_sound frames w.level.done w.level.rest.items)) frames w.sound)

pub returns-clause-leaves : goal.returns-clause-leaves
returns-clause-leaves c = record {
  inner = c.unwrap-inner.result;
  outer = c.pop_front.new.self.items;
  frames = sym (ap (λ frames. frames.items) c.replace-frames.ensures.value) ∙ c.pop_front.ensures.items ∙ ap (λ found. option_to_list found ++ c.pop_front.new.self.items) c.unwrap-inner.ensures;
  left_frames = refl;
  done = refl;
  rest = c.in_ok-push_front.ensures.items;
  reduced = λ other. c.in_ok-insert.ensures.updates.0 other ∙ ap (λ same. if same then Some c.args.outputs else reduced_at c.args.self.now other) (equality-ties c.unwrap-inner.result.name other);
  steps = refl;
}
