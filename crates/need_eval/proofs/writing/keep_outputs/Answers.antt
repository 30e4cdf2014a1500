use Rattle.need_eval.proofs.writing.keep_outputs.Goals as goal

pub returns-in-Done-clause-puts : goal.returns-in-Done-clause-puts
returns-in-Done-clause-puts g c = λ told.
    rw c.in-Done.is (rw c.as_slice.ensures at (c.keep_all.ensures.puts told))
