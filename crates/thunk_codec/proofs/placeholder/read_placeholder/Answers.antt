use Rattle.thunk_codec.proofs.Placeholders.{placeholder_found, placeholder_only}
use Rattle.thunk_codec.proofs.placeholder.read_placeholder.Goals as goal

pub returns-clause-found : goal.returns-clause-found
returns-clause-found c = placeholder_found c.args.bytes.now c.read_output.result c.read_output.ensures

pub returns-clause-only : goal.returns-clause-only
returns-clause-only c = λ name index h. placeholder_only c.args.bytes.now c.read_output.result name index c.read_output.ensures h
