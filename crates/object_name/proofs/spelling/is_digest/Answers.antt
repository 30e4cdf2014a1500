use Rattle.std.proofs.Common.{arith}
use Rattle.object_name.proofs.spelling.is_digest.Goals as goal

pub returns-clause-bytes : goal.returns-clause-bytes
returns-clause-bytes c = λ i. omega (arith, c.fits-digest i)
