use Rattle.thunk_codec.proofs.Encodes.{text_written}
use Rattle.thunk_codec.proofs.encoding.encode_parts.Goals as goal

pub returns-clause-text : goal.returns-clause-text
returns-clause-text c =
    text_written (record { function = c.args.function.now; args = c.args.args.now; envs = c.args.envs.now; inputs = c.args.inputs.now; outputs = c.args.outputs.now })
    c.new-text.result c.write_function.new.out c.write_args.new.out c.write_envs.new.out c.write_inputs.new.out c.write_outputs.new.out c.append.new.self
    c.new-text.ensures c.in_ok-write_function.ensures c.in_ok-write_args.ensures c.in_ok-write_envs.ensures c.in_ok-write_inputs.ensures.lines c.in_ok-write_outputs.ensures.lines c.in_ok-append.ensures.ok
