use Rattle.std.proofs.Common.{Some}
use Rattle.blob_store.specs.Keeping.{kept}
use Rattle.file_tree.specs.Files.{filed_in}
use Rattle.gg_cli.specs.Answer.{answer_of_command}
use Rattle.gg_cli.specs.StepContracts.{InputEnd, TopEnds, only_store}
use Rattle.gg_cli.proofs.InputMakesTheAnswer.{handed_top, read_ends, unread_ends, unread_input}
use Rattle.gg_cli.proofs.top.read_and_do.Goals as goal

pub returns-in_err-text-clause-ends : goal.returns-in_err-text-clause-ends
returns-in_err-text-clause-ends g c tells tell text told =
    let before = kept g.K.Keeper.store g.K.Keeper.writes c.args.keeper.now in
    let files = filed_in g.T.Tree.files g.T.Tree.changes c.args.tree.now in
    let out = g.O.Sink.written c.args.out.now in
    handed_top _ _ c.from_residual.ensures (λ r. TopEnds (answer_of_command (Some c.args.command.now) text before.store files.files) (only_store before before files out) r)
    (unread_ends c.args.command.now _ _ before files out text told _ c.in_err-text.ensures.gives)

pub returns-in_err-text-clause-failed : goal.returns-in_err-text-clause-failed
returns-in_err-text-clause-failed g c =
    let before = kept g.K.Keeper.store g.K.Keeper.writes c.args.keeper.now in
    let files = filed_in g.T.Tree.files g.T.Tree.changes c.args.tree.now in
    let out = g.O.Sink.written c.args.out.now in
    handed_top _ _ c.from_residual.ensures (λ r. InputEnd (Some c.args.command.now) (only_store before before files out) (g.I.Source.faults c.args.input.now) (g.I.Source.faults c.input_text.new.input) r)
    (unread_input c.args.command.now _ _ before files out _ c.in_err-text.ensures.gives)

pub returns-clause-ends : goal.returns-clause-ends
returns-clause-ends g c tells tell text told =
    read_ends c.args.command.now _ _ (g.K.Keeper.store c.args.keeper.now) (g.T.Tree.files c.args.tree.now) text told _ c.in_ok-text.ensures.gives _ _
    (rw c.as_slice.ensures at c.do_command.ensures.ends tells tell)
