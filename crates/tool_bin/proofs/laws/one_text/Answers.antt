use Rattle.tool_bin.proofs.OneText.{is_text}
use Rattle.tool_bin.proofs.laws.one_text.Goals as goal

pub returns : goal.returns
returns c = is_text
