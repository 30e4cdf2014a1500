use Rattle.std.proofs.Common.{◌≡◌, ◌∷◌, map, take}
use Rattle.need_eval.proofs.frame.Level.of.Given as goal

abbrev pub invariant-inputs : goal.invariant-inputs
invariant-inputs l = l.rest.items ≡ l.initial.thunk.function ∷ map (λ input. input.1) (take l.reference-index l.initial.thunk.inputs)
