use Rattle.std.proofs.Common.{◌≡◌, List, ℕ, subst, arith, refl, sym, ◌∙◌, ◌++◌, ◌∷◌, [], map, drop, ◌+◌}
use Rattle.build_plan.specs.declared.plan.Source.{Source}
use Rattle.build_plan.specs.declared.plan.Source.TheVariants.{File}
use Rattle.build_plan.specs.Way.{file_input}
use Rattle.build_plan.proofs.InputsInOrder.{mapped-end, mapped-more}
use Rattle.build_plan.proofs.inputs.file_inputs.Goals as goal

pub paths-init : goal.paths-init
paths-init c = rw c.new-inputs.ensures refl

pub paths-preserved : goal.paths-preserved
paths-preserved c =
    let pushed = c.in_ok-push.ensures.ok ∙ λ i. c.paths.inputs ++ (c.in_ok-copy.ensures i, File (c.in_ok-copy-2.ensures i)) ∷ [] in
    subst (λ (inputs : List (List ℕ × Source)). map file_input c.args.paths.now ≡ inputs ++ map file_input (drop (c.paths.path-index + 1) c.args.paths.now)) (sym pushed)
    (mapped-more file_input c.args.paths.now c.paths.path-index c.path-item.result c.paths.inputs c.paths-test.true c.path-item.is c.paths.invariant)

pub returns : goal.returns
returns c = sym (mapped-end file_input c.args.paths.now c.paths.path-index c.paths.inputs c.paths-test.false (omega (arith, c.paths.auto.path-index-end)) c.paths.invariant)
