use Rattle.std.proofs.Common.{Err, ap, ◌∙◌}
use Rattle.build_plan.proofs.ObjectIsStored.{fits-thunk}
use Rattle.build_plan.proofs.stored.thunk_of.Goals as goal

pub returns-in-Ok : goal.returns-in-Ok
returns-in-Ok c =
    c.in-Ok.ensures.made ∙ λ i. record { function = c.args.function; args = c.in_ok-args.ensures i; envs = c.in_ok-envs.ensures i; inputs = c.args.inputs; outputs = c.in_ok-outputs.ensures i }

pub unreachable-requires : goal.unreachable-requires
unreachable-requires c =
    c.in-Err-NotThunk.ensures.none (ap (λ fault. Err fault) c.in-Err-NotThunk.field-0-is) (fits-thunk c.args.function c.args.args.now _ c.args.envs.now _ c.args.inputs c.args.outputs.now _ c.in_ok-args.ensures c.in_ok-envs.ensures c.in_ok-outputs.ensures c.requires.fits c.requires.function c.requires.inputs)
