use Rattle.thunk_codec.proofs.Decodes.{found_text, bad_text}
use Rattle.thunk_codec.proofs.decoding.decode.Goals as goal

pub returns-clause-found : goal.returns-clause-found
returns-clause-found c = found_text c.args.bytes.now c.thunk_at.result c.thunk_at.ensures

pub returns-clause-bad : goal.returns-clause-bad
returns-clause-bad c = bad_text c.args.bytes.now c.thunk_at.result c.thunk_at.ensures
