use Rattle.std.proofs.Common.{rules, ◌≡◌, subst}
use Rattle.thunk_codec.specs.Outcome.{Fits}
use Rattle.sandbox_run.specs.Cards.{card_outcome}
use Rattle.sandbox_run.specs.CardsFit.{cards_fit}
use Rattle.sandbox_run.proofs.cards.CardsRunner.run.Goals as goal

pub returns-clause-fits : goal.returns-clause-fits
unfolding card_outcome
returns-clause-fits c =
    let same : card_outcome c.args.job.now ≡ c.limit.result = search rules in
    subst (Fits c.args.job.now) same (cards_fit c.args.job.now)
