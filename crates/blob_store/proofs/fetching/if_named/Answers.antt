use Rattle.std.proofs.Common.{◌≡◌, true, false, refl, sym, ap, ◌∙◌}
use Rattle.object_name.specs.Name.{name_of}
use Rattle.blob_store.proofs.HeldAfterPut.{if_named-own, if_named-other}
use Rattle.blob_store.proofs.fetching.if_named.Goals as goal

pub returns-then-has_name-clause-named : goal.returns-then-has_name-clause-named
returns-then-has_name-clause-named c =
    sym (if_named-own c.args.name.now c.args.bytes (ap name_of (sym c.as_slice.ensures) ∙ c.if-has_name.ensures.0 refl))

pub returns-else-has_name-clause-named : goal.returns-else-has_name-clause-named
returns-else-has_name-clause-named c =
    sym (if_named-other c.args.name.now c.args.bytes (λ e. let no : false ≡ true = c.if-has_name.ensures.1 (ap name_of c.as_slice.ensures ∙ e) in cc no))
