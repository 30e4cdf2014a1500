use Rattle.need_eval.proofs.ListsAnswer.{list-answers}
use Rattle.need_eval.proofs.WalksGoOn.{walk-asks_no_more}
use Rattle.need_eval.proofs.laws.lists_answer.Goals as goal

pub returns-clause-answers : goal.returns-clause-answers
returns-clause-answers c = list-answers

pub returns-clause-no_more : goal.returns-clause-no_more
returns-clause-no_more c = walk-asks_no_more
