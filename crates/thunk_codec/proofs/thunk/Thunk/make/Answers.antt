use Rattle.std.proofs.Common.{sym, ◌∙◌, ◌≤◌, length, arith}
use Rattle.object_name.specs.Name.{max_size}
use Rattle.thunk_codec.specs.Thunk.{Parts}
use Rattle.thunk_codec.proofs.Makes.{no_refs, no_bytes, are_thunk}
use Rattle.thunk_codec.proofs.thunk.Thunk.make.Goals as goal

pub returns-then-not-have_refs-clause-none : goal.returns-then-not-have_refs-clause-none
returns-then-not-have_refs-clause-none c _ rules =
    let t : Parts = record { function = c.args.function; args = c.args.args; envs = c.args.envs; inputs = c.args.inputs; outputs = c.args.outputs } in
    no_refs t c.have_refs.result c.as_slice.result.now c.as_slice.ensures c.have_refs.ensures c.if-not-have_refs.true rules

pub returns-then-not-keep_bytes-clause-none : goal.returns-then-not-keep_bytes-clause-none
returns-then-not-keep_bytes-clause-none c _ rules =
    let t : Parts = record { function = c.args.function; args = c.args.args; envs = c.args.envs; inputs = c.args.inputs; outputs = c.args.outputs } in
    no_bytes t (rw (c.as_slice-2.ensures, c.as_slice-3.ensures) at (sym c.keep_bytes.ensures ∙ c.if-not-keep_bytes.true)) rules

pub from_parts-requires : goal.from_parts-requires
from_parts-requires c =
    let t : Parts = record { function = c.args.function; args = c.args.args; envs = c.args.envs; inputs = c.args.inputs; outputs = c.args.outputs } in
    let short : length c.in_ok-text.text ≤ max_size = (let below = c.if-len.false in omega (arith, c.len-3.ensures)) in
    are_thunk t c.in_ok-text.text (c.is_ref.ensures.0 c.if-not-is_ref.false) (rw c.as_slice.ensures at (c.have_refs.ensures.0 c.if-not-have_refs.false))
    (rw (c.len.ensures, c.len-2.ensures) at (sym c.keep_numbers.ensures ∙ c.if-not-keep_numbers.false))
    (rw (c.as_slice-2.ensures, c.as_slice-3.ensures) at (sym c.keep_bytes.ensures ∙ c.if-not-keep_bytes.false))
    (rw (c.as_slice-4.ensures, c.as_slice-5.ensures, c.as_slice-6.ensures) at (sym c.keep_orders.ensures ∙ c.if-not-keep_orders.false))
    (rw c.as_slice-9.ensures at c.in_ok-text.ensures.input_paths) (rw c.as_slice-10.ensures at c.in_ok-text.ensures.output_paths)
    (rw (c.as_slice-7.ensures, c.as_slice-8.ensures, c.as_slice-9.ensures, c.as_slice-10.ensures) at c.in_ok-text.ensures.text) short
