use Rattle.thunk_codec.proofs.References.{ref_found, ref_only}
use Rattle.thunk_codec.proofs.reference.Ref.read.Goals as goal

pub returns-clause-found : goal.returns-clause-found
returns-clause-found c = ref_found c.args.text.now c.read_ref.result c.read_ref.ensures

pub returns-clause-only : goal.returns-clause-only
returns-clause-only c = λ r h e. ref_only c.args.text.now c.read_ref.result r c.read_ref.ensures h e
