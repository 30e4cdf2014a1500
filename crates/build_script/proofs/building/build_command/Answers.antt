use Rattle.std.proofs.Common.{List, ℕ, ap, subst, ◌∙◌}
use Rattle.build_script.specs.Commands.{own_word}
use Rattle.build_script.specs.WorkAtOnce.{IsLineFault}
use Rattle.build_script.proofs.LinesInOrder.{as-fault, as-ok, command-does, command-fault}
use Rattle.build_script.proofs.building.build_command.Goals as goal

pub returns-in-Ok-clause-goes : goal.returns-in-Ok-clause-goes
returns-in-Ok-clause-goes g c told = command-does c.args.line c.args.command.now _ _ (c.in-Ok.ensures.goes told)

pub returns-in-Ok-clause-fares : goal.returns-in-Ok-clause-fares
returns-in-Ok-clause-fares g c = as-ok _ _ _ _ _ _ _ c.in-Ok.ensures.fares

pub returns-in-Err-clause-goes : goal.returns-in-Err-clause-goes
returns-in-Err-clause-goes g c told =
    command-fault c.args.line c.args.command.now _ _ c.in-Err.fault c.line_fault.result
    (subst (λ (word : List ℕ). IsLineFault c.args.line word c.in-Err.fault c.line_fault.result) (c.own_word.ensures ∙ ap own_word c.as_slice.ensures) c.line_fault.ensures) (c.in-Err.ensures.goes told)

pub returns-in-Err-clause-fares : goal.returns-in-Err-clause-fares
returns-in-Err-clause-fares g c = as-fault _ _ _ _ c.args.line c.own_word.result.now _ _ c.in-Err.fault c.line_fault.result c.line_fault.ensures c.in-Err.ensures.fares
