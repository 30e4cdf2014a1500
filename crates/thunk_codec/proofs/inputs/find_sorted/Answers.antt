use Rattle.thunk_codec.proofs.InputsFound.{found_sorted, none_sorted}
use Rattle.thunk_codec.proofs.inputs.find_sorted.Goals as goal

pub returns-in-Ok : goal.returns-in-Ok
returns-in-Ok c =
    found_sorted c.args.path.now c.args.inputs.now c.in-Ok.index c.index-inputs-index.result c.requires c.in-Ok.ensures.bound c.index-inputs-index.is c.in-Ok.ensures.position

pub returns-in-Err : goal.returns-in-Err
returns-in-Err c = none_sorted c.args.path.now c.args.inputs.now c.in-Err.field-0 c.requires c.in-Err.ensures.position
