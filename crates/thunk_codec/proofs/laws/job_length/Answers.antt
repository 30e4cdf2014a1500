use Rattle.thunk_codec.proofs.Lengths.{job_size_by_lengths}
use Rattle.thunk_codec.proofs.laws.job_length.Goals as goal

pub returns : goal.returns
returns c = job_size_by_lengths
