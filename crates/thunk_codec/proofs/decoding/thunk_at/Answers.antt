use Rattle.std.proofs.Common.{sym, ◌∙◌, ap, subst, length, Option}
use Rattle.std.proofs.lemmas.Bool.{eqb-true, eqb-false}
use Rattle.std.proofs.lemmas.List.{nil_from_length}
use Rattle.thunk_codec.specs.Gives.{Gives}
use Rattle.thunk_codec.specs.Raw.{parts_of}
use Rattle.thunk_codec.specs.Thunk.{Parts}
use Rattle.thunk_codec.proofs.Decodes.{too_long, no_parts, more_left, rules_decide, parts_refs, parts_size}
use Rattle.thunk_codec.proofs.decoding.thunk_at.Goals as goal

pub returns-then-bytes : goal.returns-then-bytes
returns-then-bytes c = too_long c.args.bytes.now c.if-bytes.true

pub returns-in-Err : goal.returns-in-Err
returns-in-Err c = no_parts c.in-Err.fault c.args.bytes.now c.in-Err.ensures

pub returns-then-not-is_empty : goal.returns-then-not-is_empty
returns-then-not-is_empty c = more_left c.args.bytes.now c.in-Ok.read.1.now (parts_of c.in-Ok.read.0) c.if-bytes.false c.in-Ok.ensures (λ e. eqb-false _ _ (sym c.is_empty.ensures ∙ c.if-not-is_empty.true) (ap length e))

pub thunk_with-requires-clause-refs : goal.thunk_with-requires-clause-refs
thunk_with-requires-clause-refs c = parts_refs c.args.bytes.now c.in-Ok.read.1.now (parts_of c.in-Ok.read.0) c.in-Ok.ensures

pub thunk_with-requires-clause-size : goal.thunk_with-requires-clause-size
thunk_with-requires-clause-size c = parts_size c.args.bytes.now c.in-Ok.read.1.now (parts_of c.in-Ok.read.0) c.if-bytes.false c.in-Ok.ensures (nil_from_length _ (eqb-true _ _ (sym c.is_empty.ensures ∙ c.if-not-is_empty.false)))

pub returns : goal.returns
returns c = subst (λ (v : Option Parts). Gives (λ t. t) c.thunk_with.result v) (sym (rules_decide c.args.bytes.now c.in-Ok.read.1.now (parts_of c.in-Ok.read.0) c.if-bytes.false c.in-Ok.ensures (nil_from_length _ (eqb-true _ _ (sym c.is_empty.ensures ∙ c.if-not-is_empty.false))))) c.thunk_with.ensures
