use Rattle.std.proofs.Common.{refl, arith}
use Rattle.model_binutils.proofs.FilesMade.{target_made, targets_made, step_fits}
use Rattle.model_binutils.proofs.stripping.strip_targets.Goals as goal

pub files-init : goal.files-init
files-init c = rw c.new-targets.ensures (record { so_far = refl; count = omega arith })

pub files-preserved : goal.files-preserved
files-preserved c =
    target_made c.args.output.now c.args.files.now c.files.targets c.push.new.self c.files.step _ c.files.rest.now c.path-item.result c.in_ok-path.path (omega arith) c.path-item.is c.files.invariant
    c.in_ok-push.ensures.ok c.in_ok-path.ensures (omega arith)

pub overflow_add-step : goal.overflow_add-step
overflow_add-step c =
    let few = c.requires in
    let count = step_fits c.args.output.now c.args.files.now c.files.targets c.files.step c.files.rest.now (omega arith) c.files.invariant in
    omega (arith, few, count)

pub returns : goal.returns
returns c = targets_made c.args.output.now c.args.files.now c.files.targets c.files.step c.files.rest.now (omega arith) c.files.invariant
