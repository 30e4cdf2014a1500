use Rattle.tool_bin.proofs.SearchIsWhole.{search_is_whole}
use Rattle.tool_bin.proofs.laws.searches_are_whole.Goals as goal

pub returns : goal.returns
returns c = search_is_whole
