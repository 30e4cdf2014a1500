use Rattle.std.proofs.Common.{◌<◌, List, length, bytes_eq, sym, ap, subst, ◌∙◌, arith}
use Rattle.std.proofs.Math.ListN.{set}
use Rattle.std.specs.Option.{option_or}
use Rattle.indexmap.specs.IndexMap.{get}
use Rattle.tool_bin.specs.Archive.{ArchiveMember}
use Rattle.tool_bin.specs.FirstIndex.{FindsFirst}
use Rattle.tool_bin.proofs.PutByFirstIndex.{at_index, finds_end, finds_replaced, noted, put_found, put_missed}
use Rattle.tool_bin.proofs.member_insertion.put.Goals as goal

pub returns-in_default-clause-members : goal.returns-in_default-clause-members
returns-in_default-clause-members c =
    let named = c.in_ok-name.ensures ∙ c.name.ensures in
    c.in_ok-push.ensures.ok ∙ put_missed (get bytes_eq c.args.first.now) c.args.members.now c.args.member c.requires (ap (get bytes_eq c.args.first.now) (sym named) ∙ sym c.in_default.ensures.value)

pub returns-in_default-clause-first : goal.returns-in_default-clause-first
returns-in_default-clause-first c =
    let named = c.in_ok-name.ensures ∙ c.name.ensures in
    let before = get bytes_eq c.args.first.now in
    let after = get bytes_eq c.insert.new.self in
    subst (FindsFirst after) (sym c.in_ok-push.ensures.ok) (finds_end before after c.args.members.now c.args.member c.requires
    (λ name. noted before after c.in_ok-name.name c.len.result (sym c.in_default.ensures.value) c.in_ok-insert.ensures.updates.0 name
    ∙ (λ i. option_or (before name) (at_index (bytes_eq (named i) name) (c.len.ensures i)))))

pub index_mut-requires : goal.index_mut-requires
index_mut-requires c =
    let named = c.in_ok-name.ensures ∙ c.name.ensures in
    let found = ap (get bytes_eq c.args.first.now) (sym named) ∙ sym c.in-Some.ensures.value in
    let index = c.in-Some.index.now in
    let within = subst (λ (members : List ArchiveMember). index < length members) (sym c.members.view_is) (put_found (get bytes_eq c.args.first.now) c.args.members.now c.args.member index c.requires found).0 in
    let len = c.members.inside.0.ok.0 in
    omega (arith, within, len)

pub returns-clause-members : goal.returns-clause-members
returns-clause-members c =
    let named = c.in_ok-name.ensures ∙ c.name.ensures in
    let found = ap (get bytes_eq c.args.first.now) (sym named) ∙ sym c.in-Some.ensures.value in
    let index = c.in-Some.index.now in
    ap (λ (members : List ArchiveMember). set members index c.args.member) c.members.view_is ∙ (put_found (get bytes_eq c.args.first.now) c.args.members.now c.args.member index c.requires found).1

pub returns-clause-first : goal.returns-clause-first
returns-clause-first c =
    let named = c.in_ok-name.ensures ∙ c.name.ensures in
    let found = ap (get bytes_eq c.args.first.now) (sym named) ∙ sym c.in-Some.ensures.value in
    let index = c.in-Some.index.now in
    let find = get bytes_eq c.args.first.now in
    let replaced = ap (λ (members : List ArchiveMember). set members index c.args.member) c.members.view_is ∙ (put_found find c.args.members.now c.args.member index c.requires found).1 in
    subst (FindsFirst find) (sym replaced) (finds_replaced find c.args.members.now c.args.member index c.requires found)
