use Rattle.std.proofs.Common.{sym, ◌∙◌}
use Rattle.thunk_codec.specs.Raw.{parts_of}
use Rattle.thunk_codec.specs.Thunk.{keeps_bytes}
use Rattle.thunk_codec.proofs.Made.{not_kept, made_thunk}
use Rattle.thunk_codec.proofs.decoding.thunk_with.Goals as goal

pub returns-then-not-keeps_bytes : goal.returns-then-not-keeps_bytes
returns-then-not-keeps_bytes c = not_kept (parts_of c.args.raw) (keeps_bytes (parts_of c.args.raw)) (λ kept. kept.bytes) (sym c.keeps_bytes.ensures ∙ c.if-not-keeps_bytes.true)

pub from_parts-requires : goal.from_parts-requires
from_parts-requires c =
    (made_thunk (parts_of c.args.raw) c.in_ok-inputs.inputs c.in_ok-outputs.outputs c.requires.refs c.requires.size
    (sym c.keeps_numbers.ensures ∙ c.if-not-keeps_numbers.false) (sym c.keeps_bytes.ensures ∙ c.if-not-keeps_bytes.false) (sym c.keeps_orders.ensures ∙ c.if-not-keeps_orders.false)
    (rw c.as_slice.ensures at c.in_ok-inputs.ensures) (rw c.as_slice-2.ensures at c.in_ok-outputs.ensures)).0
