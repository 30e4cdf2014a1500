use Rattle.dep_tracker.proofs.OthersStayListed.{unknown-stays, others-ready}
use Rattle.dep_tracker.proofs.laws.others_stay.Goals as goal

pub returns-clause-unknown : goal.returns-clause-unknown
returns-clause-unknown c = λ t call after name follows other h. unknown-stays t call after follows name other h

pub returns-clause-ready : goal.returns-clause-ready
returns-clause-ready c = λ t call after name follows other ready h. others-ready t call after follows name other ready h
