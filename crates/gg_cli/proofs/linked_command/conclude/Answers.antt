use Rattle.gg_cli.specs.Linked.{linked_text}
use Rattle.gg_cli.proofs.LinksMakeTheAnswer.{EndsOver-handed, EndOverCause-handed, handed_done, handed_stop, missed_cause, names_found, names_missed, names_over}
use Rattle.gg_cli.proofs.LinksComeBack.{concludes-handed, done_concludes, fault_concludes}
use Rattle.gg_cli.proofs.linked_command.conclude.Goals as goal

pub returns-in_err-names-clause-ends : goal.returns-in_err-names-clause-ends
returns-in_err-names-clause-ends g c kept files outcomes budget refs before does =
    EndsOver-handed _ _ _ _ c.from_residual.ensures (names_missed outcomes budget refs before _ (linked_text c.args.wanted c.args.report.now) c.args.items.now _ _ c.args.values c.in_err-names.field-0.0 c.in_err-names.ensures.names does)

pub returns-in_err-names-clause-cause : goal.returns-in_err-names-clause-cause
returns-in_err-names-clause-cause g c before cause =
    EndOverCause-handed _ _ _ _ c.from_residual.ensures (missed_cause _ before _ _ _ c.args.values c.in_err-names.field-0.0 c.in_err-names.ensures.names cause)

pub returns-in_err-names-clause-concludes : goal.returns-in_err-names-clause-concludes
returns-in_err-names-clause-concludes g c = concludes-handed _ _ _ c.from_residual.ensures (fault_concludes c.args.values c.in_err-names.field-0.0 c.in_err-names.ensures.names)

pub hand_out-requires : goal.hand_out-requires
hand_out-requires g c kept = rw c.as_slice.ensures (names_over c.args.values c.in_ok-names.names (g.K.Keeper.store c.args.keeper.now) c.in_ok-names.ensures.names (c.requires.held kept))

pub returns-in-Ok-clause-ends : goal.returns-in-Ok-clause-ends
returns-in-Ok-clause-ends g c kept files outcomes budget refs before does =
    handed_done _ (linked_text c.args.wanted c.args.report.now) c.args.items.now c.in_ok-names.names before _ _ _ _ _ _ (names_found outcomes budget refs before _ c.args.values c.in_ok-names.names c.in_ok-names.ensures.names does) _
    (rw c.as_slice.ensures at c.in-Ok.ensures.ends kept files)

pub returns-in-Ok-clause-concludes : goal.returns-in-Ok-clause-concludes
returns-in-Ok-clause-concludes g c = done_concludes c.args.values c.in_ok-names.names _ c.in_ok-names.ensures.names

pub returns-clause-ends : goal.returns-clause-ends
returns-clause-ends g c kept files outcomes budget refs before does =
    handed_stop _ (linked_text c.args.wanted c.args.report.now) c.args.items.now c.in_ok-names.names before _ _ _ _ _ _ (names_found outcomes budget refs before _ c.args.values c.in_ok-names.names c.in_ok-names.ensures.names does) c.in-Err.fault
    (rw c.as_slice.ensures at c.in-Err.ensures.ends kept files)
