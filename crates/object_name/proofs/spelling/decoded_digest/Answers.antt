use Rattle.std.proofs.Common.{arith}
use Rattle.base64.specs.GeneralPurpose.{IsBytes}
use Rattle.object_name.proofs.SpellingLemmas.{IsBytes-take}
use Rattle.object_name.proofs.spelling.decoded_digest.Goals as goal

pub returns-clause-bytes : goal.returns-clause-bytes
returns-clause-bytes c =
    let bytes : IsBytes c.args.decoded.now = λ i. omega (arith, c.fits-decoded i) in
    rw c.copy_from_slice.ensures.after (IsBytes-take 32 c.args.decoded.now bytes)
