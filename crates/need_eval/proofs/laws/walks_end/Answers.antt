use Rattle.need_eval.proofs.WalksGoOn.{ends, stops, stops_supplying}
use Rattle.need_eval.proofs.laws.walks_end.Goals as goal

pub returns-clause-values : goal.returns-clause-values
returns-clause-values c = ends

pub returns-clause-fault : goal.returns-clause-fault
returns-clause-fault c = stops

pub returns-clause-supplying : goal.returns-clause-supplying
returns-clause-supplying c = stops_supplying
