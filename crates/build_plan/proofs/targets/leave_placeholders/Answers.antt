use Rattle.std.proofs.Common.{arith, ◌+◌, ◌∷◌, ℕ, Err, [], drop, ap, refl, subst, List}
use Rattle.file_tree.specs.Files.{filed_in}
use Rattle.file_tree.specs.declared.change.Change.{Change}
use Rattle.file_tree.specs.declared.change.Change.TheVariants.{Written}
use Rattle.thunk_codec.specs.Placeholder.{placeholder_text}
use Rattle.build_plan.specs.Creating.{placeholders}
use Rattle.build_plan.specs.StepContracts.{Changes}
use Rattle.build_plan.proofs.CountsAddUp.{files-none, files-then, handed-files}
use Rattle.build_plan.proofs.FilesAreChanged.{HasChanged, changed-all, changed-more, changed-none, changed-stop, next-placeholder}
use Rattle.build_plan.proofs.FilesAreFound.{last-drop}
use Rattle.build_plan.proofs.WorkGoesOn.{handed}
use Rattle.build_plan.proofs.targets.leave_placeholders.Goals as goal

pub outputs-init : goal.outputs-init
outputs-init g c = record { changing = record { made = λ told. changed-none _ _; fares = files-none _ _ _ _ _ _ tt }; place = refl }

pub leave_placeholder-requires : goal.leave_placeholder-requires
leave_placeholder-requires g c = c.requires.thunk c.outputs.index (omega (arith, c.outputs.invariant.place, c.outputs-test.true, c.requires.few))

pub outputs-preserved : goal.outputs-preserved
outputs-preserved g c =
    let name = c.args.name.now in
    let outputs = c.args.outputs.now in
    let i = c.outputs.path-index in
    record {
      changing = record {
        made = λ told.
            changed-more (placeholders name 0 outputs) (Written c.path-item.result (placeholder_text name i)) (placeholders name (i + 1) (drop (i + 1) outputs)) (filed_in g.T.Tree.files g.T.Tree.changes c.args.tree.now) (filed_in g.T.Tree.files g.T.Tree.changes c.outputs.tree) (filed_in g.T.Tree.files g.T.Tree.changes c.leave_placeholder.new.tree)
            (subst (λ (left : List Change). HasChanged (placeholders name 0 outputs) left (filed_in g.T.Tree.files g.T.Tree.changes c.args.tree.now) (filed_in g.T.Tree.files g.T.Tree.changes c.outputs.tree)) (next-placeholder name outputs i c.path-item.result c.outputs-test.true c.path-item.is) (c.outputs.invariant.changing.made told))
            (rw c.outputs.invariant.place at (c.in_ok-leave_placeholder.ensures.changes told));
        fares = files-then _ _ _ _ _ _ _ _ _ c.outputs.invariant.changing.fares (files-then _ _ _ _ _ _ _ _ _ c.in_ok-leave_placeholder.ensures.fares (files-none _ _ _ _ _ _ tt));
      };
      place = ap (λ n. n + 1) c.outputs.invariant.place;
    }

pub returns-in_err-leave_placeholder-clause-changes : goal.returns-in_err-leave_placeholder-clause-changes
returns-in_err-leave_placeholder-clause-changes g c told =
    let name = c.args.name.now in
    let outputs = c.args.outputs.now in
    let i = c.outputs.path-index in
    handed (Changes (placeholders name 0 outputs) (filed_in g.T.Tree.files g.T.Tree.changes c.args.tree.now) (filed_in g.T.Tree.files g.T.Tree.changes c.leave_placeholder.new.tree)) _ c.in_err-leave_placeholder.field-0.0 c.from_residual.ensures
    (changed-stop (Unit {0}) (Unit {0}) (placeholders name 0 outputs) (Written c.path-item.result (placeholder_text name i)) (placeholders name (i + 1) (drop (i + 1) outputs)) (filed_in g.T.Tree.files g.T.Tree.changes c.args.tree.now) (filed_in g.T.Tree.files g.T.Tree.changes c.outputs.tree) (filed_in g.T.Tree.files g.T.Tree.changes c.leave_placeholder.new.tree) c.in_err-leave_placeholder.field-0.0
    (subst (λ (left : List Change). HasChanged (placeholders name 0 outputs) left (filed_in g.T.Tree.files g.T.Tree.changes c.args.tree.now) (filed_in g.T.Tree.files g.T.Tree.changes c.outputs.tree)) (next-placeholder name outputs i c.path-item.result c.outputs-test.true c.path-item.is) (c.outputs.invariant.changing.made told))
    (subst (λ (n : ℕ). Changes {A = Unit {0}} (Written c.path-item.result (placeholder_text name n) ∷ []) (filed_in g.T.Tree.files g.T.Tree.changes c.outputs.tree) (filed_in g.T.Tree.files g.T.Tree.changes c.leave_placeholder.new.tree) (Err c.in_err-leave_placeholder.field-0.0)) c.outputs.invariant.place (c.in_err-leave_placeholder.ensures.changes told)))

pub returns-in_err-leave_placeholder-clause-fares : goal.returns-in_err-leave_placeholder-clause-fares
returns-in_err-leave_placeholder-clause-fares g c = files-then _ _ _ _ _ _ _ _ _ c.outputs.invariant.changing.fares (handed-files _ _ _ _ _ _ _ _ c.from_residual.ensures c.in_err-leave_placeholder.ensures.fares)

pub returns-clause-changes : goal.returns-clause-changes
returns-clause-changes g c told =
    let name = c.args.name.now in
    let outputs = c.args.outputs.now in
    let i = c.outputs.path-index in
    changed-all (placeholders name 0 outputs) (filed_in g.T.Tree.files g.T.Tree.changes c.args.tree.now) (filed_in g.T.Tree.files g.T.Tree.changes c.outputs.tree)
    (subst (λ (left : List Change). HasChanged (placeholders name 0 outputs) left (filed_in g.T.Tree.files g.T.Tree.changes c.args.tree.now) (filed_in g.T.Tree.files g.T.Tree.changes c.outputs.tree)) (ap (placeholders name i) (last-drop outputs i c.outputs-test.false (omega (arith, c.outputs.auto.path-index-end)))) (c.outputs.invariant.changing.made told))

pub returns-clause-fares : goal.returns-clause-fares
returns-clause-fares g c = files-then _ _ _ _ _ _ _ _ _ c.outputs.invariant.changing.fares (files-none _ _ _ _ _ _ tt)
