use Rattle.model_gcc.proofs.ScansOfCpp.{scans_are_over}
use Rattle.model_gcc.proofs.laws.scans_are_over.Goals as goal

pub returns : goal.returns
returns c = scans_are_over
