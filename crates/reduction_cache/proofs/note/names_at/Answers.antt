use Rattle.std.proofs.Common.{sym}
use Rattle.reduction_cache.proofs.Names.{going_start, going_ends, going_full, going_fails, going_more}
use Rattle.reduction_cache.proofs.note.names_at.Goals as goal

pub returns-then-starts_with : goal.returns-then-starts_with
returns-then-starts_with c = going_ends c.args.bytes.now c.names.names c.names.rest.now c.names.counter c.names.invariant (sym c.if-starts_with.ensures.value)

pub returns-in_default : goal.returns-in_default
returns-in_default c =
    going_fails c.args.bytes.now c.names.names c.names.rest.now c.names.counter c.names.invariant c.names-test.true (sym c.if-starts_with.ensures.value) c.in_default.ensures

pub names-init : goal.names-init
names-init c = going_start c.args.bytes.now c.new-names.result c.new-names.ensures

pub names-preserved : goal.names-preserved
names-preserved c =
    going_more c.args.bytes.now c.names.names c.push.new.self c.names.rest.now c.in-Some.read.1.now c.in-Some.read.0 c.names.counter c.names.invariant c.names-test.true
    (sym c.if-starts_with.ensures.value) c.in-Some.ensures c.in_ok-push.ensures.ok

pub returns : goal.returns
returns c = going_full c.args.bytes.now c.names.names c.names.rest.now c.names.counter c.names.invariant c.names-test.false
