use Rattle.std.proofs.Common.{arith}
use Rattle.thunk_codec.proofs.Lengths.{job_is_small, size_by_lengths_is}
use Rattle.thunk_codec.proofs.job_length.job_len.Goals as goal

pub args_size-requires : goal.args_size-requires
args_size-requires c =
    let small = job_is_small c.args.args.now c.args.envs.now c.args.inputs.now c.args.outputs.now c.requires.objects c.requires.parts in
    omega (arith, small.small_args)

pub envs_size-requires : goal.envs_size-requires
envs_size-requires c =
    let small = job_is_small c.args.args.now c.args.envs.now c.args.inputs.now c.args.outputs.now c.requires.objects c.requires.parts in
    omega (arith, small.small_envs)

pub lengths_size-requires : goal.lengths_size-requires
lengths_size-requires c =
    let small = job_is_small c.args.args.now c.args.envs.now c.args.inputs.now c.args.outputs.now c.requires.objects c.requires.parts in
    omega (arith, small.small_inputs)

pub outputs_size-requires : goal.outputs_size-requires
outputs_size-requires c =
    let small = job_is_small c.args.args.now c.args.envs.now c.args.inputs.now c.args.outputs.now c.requires.objects c.requires.parts in
    omega (arith, small.small_outputs)

pub returns : goal.returns
returns c =
    let whole = size_by_lengths_is c.args.function c.args.args.now c.args.envs.now c.args.inputs.now c.args.outputs.now in
    omega (arith, whole, c.args_size.ensures.sum, c.envs_size.ensures.sum, c.lengths_size.ensures.sum, c.outputs_size.ensures.sum)
