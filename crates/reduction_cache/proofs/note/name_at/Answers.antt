use Rattle.reduction_cache.proofs.Names.{name_short}
use Rattle.reduction_cache.proofs.note.name_at.Goals as goal

pub returns-then-bytes-lt-SPELLING_LEN : goal.returns-then-bytes-lt-SPELLING_LEN
returns-then-bytes-lt-SPELLING_LEN c = name_short c.args.bytes.now c.if-bytes-lt-SPELLING_LEN.true
