use Rattle.std.proofs.lemmas.Result.{err_from_is_err_and}
use Rattle.thunk_codec.proofs.CanonicalPaths.{input_refused}
use Rattle.thunk_codec.proofs.canonical.canonical_inputs.Goals as goal

pub returns-in_err-path : goal.returns-in_err-path
returns-in_err-path c =
    let p = err_from_is_err_and c.from_residual.result c.from_residual.ensures.1 in
    rw (p.1, p.2) (input_refused c.in_err-path.field-0.0 c.args.inputs.now c.inputs.text-index c.inputs-item.result c.inputs-test.true c.inputs-item.is (rw c.as_slice.ensures at c.in_err-path.ensures))
