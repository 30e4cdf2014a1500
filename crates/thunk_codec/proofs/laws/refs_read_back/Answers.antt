use Rattle.thunk_codec.proofs.References.{ref_again, ref_spelled}
use Rattle.thunk_codec.proofs.laws.refs_read_back.Goals as goal

pub returns-clause-spelled : goal.returns-clause-spelled
returns-clause-spelled c = ref_again

pub returns-clause-named : goal.returns-clause-named
returns-clause-named c = ref_spelled
