use Rattle.blob_store.proofs.PairsByName.{put_found, put_none, IsWhole-found, IsWhole-none}
use Rattle.blob_store.proofs.named_bytes.NamedBytes.put.Goals as goal

pub returns-in-Some-clause-ok : goal.returns-in-Some-clause-ok
returns-in-Some-clause-ok c =
    put_found c.args.self.now c.args.name c.args.bytes c.self.inside.pairs.items c.as_slice.result.now c.in-Some.i c.index_mut.result.now c.self.view_is c.as_slice.ensures.value c.in-Some.ensures

pub returns-in_ok-push-in-None-clause-ok : goal.returns-in_ok-push-in-None-clause-ok
returns-in_ok-push-in-None-clause-ok c =
    put_none c.args.self.now c.args.name c.args.bytes c.self.inside.pairs.items c.as_slice.result.now c.push.new.self.items c.self.view_is c.as_slice.ensures.value c.in-None.ensures c.in_ok-push-in-None.ensures.items

pub invariant_of-self : goal.invariant_of-self
invariant_of-self c =
    IsWhole-found c.args.name c.args.bytes c.self.inside.pairs.items c.as_slice.result.now c.in-Some.i c.index_mut.result.now c.as_slice.ensures.value c.in-Some.ensures c.self.invariant

pub invariant_of-self-in-Continue-1 : goal.invariant_of-self-in-Continue-1
invariant_of-self-in-Continue-1 c =
    IsWhole-none c.args.name c.args.bytes c.self.inside.pairs.items c.as_slice.result.now c.push.new.self.items c.as_slice.ensures.value c.in-None.ensures c.in_ok-push-in-None.ensures.items
    c.self.invariant
