use Rattle.std.specs.Prelude.{◌≡◌, ◌≤◌, ◌<◌, ◌+◌, ◌++◌, [], length, vec_len, vec_capacity}
use Rattle.force_pool.specs.Links.{marks_of}
use Rattle.force_pool.proofs.ready.start_all.Given as goal

abbrev pub invariant-links : goal.invariant-links
invariant-links g l =
    (l.slots.items ++ marks_of g.L.Link.jobs g.L.Link.faults l.link-iterator.rest.items ≡ l.fn.ready.marks)
    × (vec_len l.slots + length l.link-iterator.rest.items ≡ length l.fn.ready.marks)
    × (length l.fn.ready.marks ≤ vec_capacity l.slots)
    × (length l.link-iterator.rest.items < l.starts.parts) × (length l.link-iterator.rest.items < l.replies.parts) × (length l.link-iterator.rest.items < l.losses.parts)
    × (l.starts.parts + vec_len l.slots ≡ l.fn.ready.parts.starts) × (l.replies.parts + vec_len l.slots ≡ l.fn.ready.parts.replies) × (l.losses.parts + vec_len l.slots ≡ l.fn.ready.parts.losses)
    × (l.starts.amount ≡ 0) × (l.replies.amount ≡ 0) × (l.losses.amount ≡ 0) × (l.retries ≡ g.S.Limits.retries)
    × (l.back.items ≡ []) × (l.left ≡ length l.fn.ready.marks) × (l.left ≤ vec_capacity l.back)
