use Rattle.std.proofs.Common.{sym, ◌∙◌}
use Rattle.dep_tracker.proofs.EntriesAreFound.{name-new}
use Rattle.dep_tracker.proofs.listing.list_thunk.Goals as goal

pub returns : goal.returns
returns c =
    name-new _ _ c.args.listed.now.keys _ c.args.name.now (sym c.is_added.ensures ∙ c.if-is_added.false) (sym c.has_name.ensures ∙ c.if-has_name.false) c.in_ok-insert.ensures.keys
