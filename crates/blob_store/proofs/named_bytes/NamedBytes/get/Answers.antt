use Rattle.std.proofs.Common.{◌∙◌}
use Rattle.blob_store.proofs.PairsByName.{get_found, get_none}
use Rattle.blob_store.proofs.named_bytes.NamedBytes.get.Goals as goal

pub returns-in_ok-from_slice-in-Some : goal.returns-in_ok-from_slice-in-Some
returns-in_ok-from_slice-in-Some c =
    get_found c.args.self.now c.args.name.now c.self.inside.pairs.items c.as_slice.result.now c.in-Some.i c.index.result.now c.in_ok-from_slice-in-Some.field-0
    c.self.view_is c.as_slice.ensures.value c.in-Some.ensures c.index.ensures (c.in_ok-from_slice-in-Some.ensures ∙ c.as_slice-in-Some.ensures)

pub returns-in-None : goal.returns-in-None
returns-in-None c = get_none c.args.self.now c.args.name.now c.self.inside.pairs.items c.as_slice.result.now c.self.view_is c.as_slice.ensures.value c.in-None.ensures
