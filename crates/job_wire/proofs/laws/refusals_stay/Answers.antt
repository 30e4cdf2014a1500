use Rattle.job_wire.proofs.Sessions.{front_bad_more, front_long_more}
use Rattle.job_wire.proofs.laws.refusals_stay.Goals as goal

pub returns-clause-bad : goal.returns-clause-bad
returns-clause-bad c = front_bad_more

pub returns-clause-too_long : goal.returns-clause-too_long
returns-clause-too_long c = front_long_more
