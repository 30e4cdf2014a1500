use Rattle.std.proofs.Common.{ap, sym, ◌∙◌, arith}
use Rattle.thunk_codec.proofs.Lengths.{thunk_is_small, resolved_size_is}
use Rattle.thunk_codec.specs.Job.{resolved_size}
use Rattle.thunk_codec.proofs.thunk.Thunk.resolved_size.Goals as goal

pub args_size-args-requires : goal.args_size-args-requires
args_size-args-requires c = rw c.as_slice.ensures (thunk_is_small _ c.self.invariant).args

pub envs_size-envs-requires : goal.envs_size-envs-requires
envs_size-envs-requires c = rw c.as_slice-2.ensures (thunk_is_small _ c.self.invariant).envs

pub inputs_size-inputs-requires : goal.inputs_size-inputs-requires
inputs_size-inputs-requires c = rw c.as_slice-3.ensures (thunk_is_small _ c.self.invariant).inputs

pub outputs_size-outputs-requires : goal.outputs_size-outputs-requires
outputs_size-outputs-requires c = rw c.as_slice-4.ensures (thunk_is_small _ c.self.invariant).outputs

pub returns : goal.returns
returns c =
    let function = c.size.ensures.size ∙ ap (λ n. n.size) c.name.ensures in
    let args = rw c.as_slice.ensures at c.args_size-args.ensures.sum in
    let envs = rw c.as_slice-2.ensures at c.envs_size-envs.ensures.sum in
    let inputs = rw c.as_slice-3.ensures at c.inputs_size-inputs.ensures.sum in
    let outputs = rw c.as_slice-4.ensures at c.outputs_size-outputs.ensures.sum in
    let whole = ap resolved_size (sym c.self.view_is) ∙ resolved_size_is _ in
    omega (arith, function, args, envs, inputs, outputs, whole)
