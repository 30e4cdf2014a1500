use Rattle.std.proofs.Common.{[], List, map, Ok, ℕ, sym, subst}
use Rattle.std.specs.List.{AllByRecursion}
use Rattle.file_tree.specs.Files.{filed_in}
use Rattle.file_tree.proofs.PublicLaws.{same_filed}
use Rattle.build_plan.specs.Way.{change_of, gathered}
use Rattle.build_plan.specs.declared.plan.Step.{Step}
use Rattle.build_plan.specs.declared.plan.Target.{Target}
use Rattle.build_script.specs.WholeTree.{ScansForCpp}
use Rattle.build_script.specs.WorkAtOnce.{Changes, Goes, PlanGoes, Stops, by_cards, why_of}
use Rattle.build_script.proofs.CallsCounted.{fares-as, fares-then, handed}
use Rattle.build_script.proofs.PlanAtOnce.{plan-end, plan-stops}
use Rattle.build_script.proofs.plan_at_once.do_plan.Goals as goal

pub take_steps-requires : goal.take_steps-requires
take_steps-requires g c = subst (λ (steps : List Step). AllByRecursion ScansForCpp steps) (sym c.as_slice.ensures) c.requires

pub returns-in_err-items-clause-goes : goal.returns-in_err-items-clause-goes
returns-in_err-items-clause-goes g c told =
    let plan = c.args.plan.now in
    let before = filed_in g.T.Tree.files g.T.Tree.changes c.args.tree.now in
    let mid = filed_in g.T.Tree.files g.T.Tree.changes c.take_steps.new.tree in
    let fault = c.in_err-items.field-0.0 in
    handed (PlanGoes plan before mid) _ fault c.from_residual.ensures
    (plan-stops plan before mid mid (same_filed g.T.Tree.files g.T.Tree.changes c.args.tree.now c.take_steps.new.tree (c.in_err-items.ensures.reads.same told) (c.in_err-items.ensures.reads.list told)) (why_of fault)
    (subst (λ (steps : List Step). Stops (gathered by_cards steps []) before.files (why_of fault)) c.as_slice.ensures (c.in_err-items.ensures.goes told)))

pub returns-in_err-items-clause-fares : goal.returns-in_err-items-clause-fares
returns-in_err-items-clause-fares g c = fares-as _ _ _ _ _ _ c.in_err-items.field-0.0 _ c.from_residual.ensures c.in_err-items.ensures.reads.fares

pub returns-clause-goes : goal.returns-clause-goes
returns-clause-goes g c told =
    let plan = c.args.plan.now in
    let before = filed_in g.T.Tree.files g.T.Tree.changes c.args.tree.now in
    let mid = filed_in g.T.Tree.files g.T.Tree.changes c.take_steps.new.tree in
    let after = filed_in g.T.Tree.files g.T.Tree.changes c.change_targets.new.tree in
    let items = c.in_ok-items.items in
    plan-end plan before mid after (same_filed g.T.Tree.files g.T.Tree.changes c.args.tree.now c.take_steps.new.tree (c.in_ok-items.ensures.reads.same told) (c.in_ok-items.ensures.reads.list told)) items
    (subst (λ (steps : List Step). Goes (gathered by_cards steps []) before.files (Ok items)) c.as_slice.ensures (c.in_ok-items.ensures.goes told)) c.change_targets.result
    (subst (λ (targets : List Target). Changes (map (change_of by_cards items) targets) mid after c.change_targets.result) c.as_slice-3.ensures
    (subst (λ (items : List (List ℕ)). Changes (map (change_of by_cards items) c.as_slice-3.result.now) mid after c.change_targets.result) c.as_slice-2.ensures (c.change_targets.ensures.changes told)))

pub returns-clause-fares : goal.returns-clause-fares
returns-clause-fares g c = fares-then _ _ _ _ _ _ _ _ c.in_ok-items.ensures.reads.fares c.change_targets.ensures.fares
