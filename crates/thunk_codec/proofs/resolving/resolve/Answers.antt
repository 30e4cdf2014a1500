use Rattle.thunk_codec.proofs.Resolves.{made_resolved}
use Rattle.thunk_codec.proofs.resolving.resolve.Goals as goal

pub with_refs-requires : goal.with_refs-requires
with_refs-requires c = rw c.value.ensures.made
    (made_resolved c.args.thunk.now c.args.values.now c.function-item.result c.function-item.result c.inputs.result.now c.in_ok-inputs-in-len1-up.inputs c.in-len1-up.len_at_least c.requires.kinds c.function-item.is
    c.value.ensures.name c.inputs.ensures c.in_ok-inputs-in-len1-up.ensures.made c.in_ok-inputs-in-len1-up.ensures.names)
