use Rattle.need_eval.proofs.walker.Walker.advance.Goals as goal

pub returns-in-Ok-AtEnd-clause-walks : goal.returns-in-Ok-AtEnd-clause-walks
returns-in-Ok-AtEnd-clause-walks g c = λ told. rw c.in-Ok-AtEnd.field-0-is at (c.in-Ok-AtEnd.ensures.walks told)

pub returns-in-Ok-AtJob-clause-walks : goal.returns-in-Ok-AtJob-clause-walks
returns-in-Ok-AtJob-clause-walks g c = λ told.
    let waits = rw c.in-Ok-AtJob.field-0-is at (c.in-Ok-AtJob.ensures.walks told) in
    let stands = waits.1 in
    (waits.0, record { inner = stands.inner; outer = stands.outer; frames = stands.frames; no_rest = stands.no_rest; small = stands.small; no_hit = stands.no_hit; text = stands.text; job = stands.job })
