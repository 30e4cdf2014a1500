use Rattle.std.proofs.Common.{Ok, Result, Option, ap, sym, subst, ◌∙◌}
use Rattle.file_tree.specs.Files.{filed_in}
use Rattle.build_script.specs.declared.line_command.LineCommand.{LineCommand}
use Rattle.build_script.specs.LineCommand.{Halt, line_command}
use Rattle.build_script.specs.WorkAtOnce.{FaresAs, LineGoes, command_built}
use Rattle.build_script.proofs.CallsCounted.{fares-none}
use Rattle.build_script.proofs.LinesInOrder.{as-found, as-ok, found-fault, line-handed, nothing-does}
use Rattle.build_script.proofs.StepsOfCommands.{line-scans}
use Rattle.build_script.proofs.building.build_line.Goals as goal

pub returns-in_err-command-clause-goes : goal.returns-in_err-command-clause-goes
returns-in_err-command-clause-goes g c told =
    let line = c.args.line.now in
    let before = filed_in g.T.Tree.files g.T.Tree.changes c.args.tree.now in
    line-handed (LineGoes (command_built line.number (line_command line)) before before line.number) _ c.in_err-command.field-0.0 c.from_residual.ensures
    (found-fault line.number (line_command line) before c.in_err-command.field-0.0 c.in_err-command.ensures.exact)

pub returns-in_err-command-clause-fares : goal.returns-in_err-command-clause-fares
returns-in_err-command-clause-fares g c =
    line-handed (FaresAs _ _ _ _ _ _) _ c.in_err-command.field-0.0 c.from_residual.ensures (as-found _ _ _ _ (line_command c.args.line.now) _ _ c.in_err-command.field-0.0 c.in_err-command.ensures.exact (fares-none _ _ _ _ _))

pub build_command-requires : goal.build_command-requires
build_command-requires g c = line-scans c.args.line.now c.in-Some.command (c.in_ok-command.ensures.exact ∙ ap (λ found. Ok found) c.in-Some.is)

pub returns-in-Some-clause-goes : goal.returns-in-Some-clause-goes
returns-in-Some-clause-goes g c told =
    let line = c.args.line.now in
    subst (λ (found : Result (Option LineCommand) Halt). LineGoes (command_built line.number found) (filed_in g.T.Tree.files g.T.Tree.changes c.args.tree.now) (filed_in g.T.Tree.files g.T.Tree.changes c.build_command.new.tree) line.number c.build_command.result)
    (sym (c.in_ok-command.ensures.exact ∙ ap (λ found. Ok found) c.in-Some.is)) (c.build_command.ensures.goes told)

pub returns-in-Some-clause-fares : goal.returns-in-Some-clause-fares
returns-in-Some-clause-fares g c = c.build_command.ensures.fares

pub returns-in-None-clause-goes : goal.returns-in-None-clause-goes
returns-in-None-clause-goes g c told =
    let line = c.args.line.now in
    let before = filed_in g.T.Tree.files g.T.Tree.changes c.args.tree.now in
    subst (λ (found : Result (Option LineCommand) Halt). LineGoes (command_built line.number found) before before line.number (Ok 0)) (sym (c.in_ok-command.ensures.exact ∙ ap (λ found. Ok found) c.in-None.is)) (nothing-does line.number before)

pub returns-in-None-clause-fares : goal.returns-in-None-clause-fares
returns-in-None-clause-fares g c = as-ok _ _ _ _ _ _ _ (fares-none _ _ _ _ _)
