use Rattle.text_lines.proofs.CutLemmas.{feed_takes, feed_again}
use Rattle.text_lines.proofs.laws.feeds_are_taken_away.Goals as goal

pub returns-clause-takes : goal.returns-clause-takes
returns-clause-takes c = feed_takes

pub returns-clause-again : goal.returns-clause-again
returns-clause-again c = feed_again
