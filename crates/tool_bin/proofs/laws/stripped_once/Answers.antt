use Rattle.tool_bin.proofs.StrippedOnce.{strips_once}
use Rattle.tool_bin.proofs.laws.stripped_once.Goals as goal

pub returns : goal.returns
returns c = strips_once
