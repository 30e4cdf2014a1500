use Rattle.std.proofs.Common.{sym}
use Rattle.tool_bin.proofs.OneText.{not_headed}
use Rattle.tool_bin.proofs.object_reading.read_with.Goals as goal

pub returns-then-not-starts_with : goal.returns-then-not-starts_with
returns-then-not-starts_with c = not_headed c.args.head.now c.args.bytes.now (sym c.if-not-starts_with.ensures.value)
