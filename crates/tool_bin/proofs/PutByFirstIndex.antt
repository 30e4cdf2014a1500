-- Putting a member in by the index of the first member of its name, and the indexes afterwards.
use Rattle.std.proofs.Common.{◌≡◌, ℕ, suc, ◌+◌, ◌<◌, Bool, true, false, cond, List, [], ◌∷◌, ◌++◌, length, take, get_or, Option, Some, None, bytes_eq, refl, sym, ap, subst, ◌∙◌, arith}
use Rattle.std.specs.Option.{option_or}
use Rattle.std.proofs.Math.ListN.{set}
use Rattle.std.proofs.Math.Seq.{take-suc}
use Rattle.std.proofs.lemmas.List.{length-take-le}
use Rattle.std.proofs.lemmas.Slice.Eq.{bytes_eq-Decides}
use Rattle.tool_bin.specs.Archive.{ArchiveMember}
use Rattle.tool_bin.specs.Ar.{is_named, put}
use Rattle.tool_bin.specs.FirstIndex.{index_from, FindsFirst}

-- the index, where a member of this name stands there
abbrev pub at_index : Bool → ℕ → Option ℕ
at_index test k = cond test (Some k) None

or_none : (found : Option ℕ) → option_or found None ≡ found
or_none None = refl
or_none (Some k) = refl

-- ---- a member at the end

end_step : (test last : Bool) (k l : ℕ) (later : Option ℕ) → later ≡ later → cond test (Some k) (option_or later (at_index last l)) ≡ option_or (cond test (Some k) later) (at_index last l)
end_step true last k l later same = refl
end_step false last k l later same = refl

pub index_from-end : (k : ℕ) (name : List ℕ) (members : List ArchiveMember) (new : ArchiveMember)
    → index_from k name (members ++ new ∷ []) ≡ option_or (index_from k name members) (at_index (is_named name new) (k + length members))
index_from-end k name [] new = ap (at_index (is_named name new)) (omega arith)
index_from-end k name (member ∷ members) new =
    ap (λ later. cond (is_named name member) (Some k) later) (index_from-end (k + 1) name members new
    ∙ ap (λ n. option_or (index_from (k + 1) name members) (at_index (is_named name new) n)) (omega arith))
    ∙ end_step (is_named name member) (is_named name new) k (k + length (member ∷ members)) (index_from (k + 1) name members) refl

-- ---- a member that is put in

-- members of one name are named alike
named_alike : (name : List ℕ) (member new : ArchiveMember) → is_named new.name member ≡ true → is_named name new ≡ is_named name member
named_alike name member new same = ap (λ v. bytes_eq v name) (sym ((bytes_eq-Decides member.name new.name).0 same))

replaced_step : (test : Bool) (k l : ℕ) (later : Option ℕ) → cond test (Some k) later ≡ option_or (cond test (Some k) later) (at_index test l)
replaced_step true k l later = refl
replaced_step false k l later = sym (or_none later)

put_step : (k : ℕ) (name : List ℕ) (member new : ArchiveMember) (members : List ArchiveMember) (test : Bool) → is_named new.name member ≡ test
    → index_from (k + 1) name (put members new) ≡ option_or (index_from (k + 1) name members) (at_index (is_named name new) (k + 1 + length members))
    → index_from k name (cond test (new ∷ members) (member ∷ put members new)) ≡ option_or (index_from k name (member ∷ members)) (at_index (is_named name new) (k + length (member ∷ members)))
put_step k name member new members true same later =
    let alike = named_alike name member new same in
    ap (λ test. cond test (Some k) (index_from (k + 1) name members)) alike
    ∙ replaced_step (is_named name member) k (k + length (member ∷ members)) (index_from (k + 1) name members)
    ∙ ap (λ test. option_or (index_from k name (member ∷ members)) (at_index test (k + length (member ∷ members)))) (sym alike)
put_step k name member new members false other later =
    ap (λ found. cond (is_named name member) (Some k) found) (later ∙ ap (λ n. option_or (index_from (k + 1) name members) (at_index (is_named name new) n)) (omega arith))
    ∙ end_step (is_named name member) (is_named name new) k (k + length (member ∷ members)) (index_from (k + 1) name members) refl

pub index_from-put : (k : ℕ) (name : List ℕ) (members : List ArchiveMember) (new : ArchiveMember)
    → index_from k name (put members new) ≡ option_or (index_from k name members) (at_index (is_named name new) (k + length members))
index_from-put k name [] new = ap (at_index (is_named name new)) (omega arith)
index_from-put k name (member ∷ members) new = put_step k name member new members (is_named new.name member) refl (index_from-put (k + 1) name members new)

-- ---- by the index

-- a member is put in at an index that is counted from a number
pub record IsPutAt (k index : ℕ) (members : List ArchiveMember) (new : ArchiveMember) : Type 0 where
  pub after : ℕ
  pub is : index ≡ k + after
  pub within : after < length members
  pub put : set members after new ≡ put members new

found_step : (k index : ℕ) (member new : ArchiveMember) (members : List ArchiveMember) (test : Bool) → is_named new.name member ≡ test
    → (index_from (k + 1) new.name members ≡ Some index → IsPutAt (k + 1) index members new)
    → cond test (Some k) (index_from (k + 1) new.name members) ≡ Some index → IsPutAt k index (member ∷ members) new
found_step k index member new members true same later e =
    let at : k ≡ index = cc in record { after = 0; is = sym at ∙ (let z : k ≡ k + 0 = omega arith in z); within = omega arith; put = rw same refl }
found_step k index member new members false other later e =
    let rest = later e in let is = rest.is in let within = rest.within in
    record { after = suc rest.after; is = omega (arith, is); within = omega (arith, within); put = ap (λ v. member ∷ v) rest.put ∙ rw other refl }

found : (k index : ℕ) (members : List ArchiveMember) (new : ArchiveMember) → index_from k new.name members ≡ Some index → IsPutAt k index members new
found k index [] new is = absurd cc
found k index (member ∷ members) new is = found_step k index member new members (is_named new.name member) refl (found (k + 1) index members new) is

missed_step : (k : ℕ) (member new : ArchiveMember) (members : List ArchiveMember) (test : Bool) → is_named new.name member ≡ test
    → (index_from (k + 1) new.name members ≡ None → members ++ new ∷ [] ≡ put members new)
    → cond test (Some k) (index_from (k + 1) new.name members) ≡ None → (member ∷ members) ++ new ∷ [] ≡ put (member ∷ members) new
missed_step k member new members true same later e = absurd cc
missed_step k member new members false other later e = ap (λ v. member ∷ v) (later e) ∙ rw other refl

missed : (k : ℕ) (members : List ArchiveMember) (new : ArchiveMember) → index_from k new.name members ≡ None → members ++ new ∷ [] ≡ put members new
missed k [] new is = refl
missed k (member ∷ members) new is = missed_step k member new members (is_named new.name member) refl (missed (k + 1) members new) is

-- the member at the index that a look-up finds is replaced
pub put_found : (find : List ℕ → Option ℕ) (members : List ArchiveMember) (new : ArchiveMember) (index : ℕ) → FindsFirst find members → find new.name ≡ Some index
    → (index < length members) × (set members index new ≡ put members new)
put_found find members new index finds is =
    let at = found 0 index members new (sym (finds.at new.name) ∙ is) in
    let same : at.after ≡ index = let e = at.is in omega (arith, e) in
    let within = at.within in
    (omega (arith, same, within), ap (λ n. set members n new) (sym same) ∙ at.put)

-- the member is added where a look-up finds no index
pub put_missed : (find : List ℕ → Option ℕ) (members : List ArchiveMember) (new : ArchiveMember) → FindsFirst find members → find new.name ≡ None → members ++ new ∷ [] ≡ put members new
put_missed find members new finds is = missed 0 members new (sym (finds.at new.name) ∙ is)

-- the look-up finds the same afterwards
pub finds_replaced : (find : List ℕ → Option ℕ) (members : List ArchiveMember) (new : ArchiveMember) (index : ℕ) → FindsFirst find members → find new.name ≡ Some index → FindsFirst find (put members new)
finds_replaced find members new index finds is = record { at = λ name. finds.at name ∙ kept name (bytes_eq new.name name) refl }
  where
    kept : (name : List ℕ) (test : Bool) → bytes_eq new.name name ≡ test → index_from 0 name members ≡ index_from 0 name (put members new)
    kept name true same =
        let here : index_from 0 name members ≡ Some index = ap (λ n. index_from 0 n members) (sym ((bytes_eq-Decides new.name name).0 same)) ∙ (sym (finds.at new.name) ∙ is) in
        here ∙ sym (index_from-put 0 name members new ∙ ap (λ r. option_or r (at_index (is_named name new) (0 + length members))) here)
    kept name false other =
        sym (index_from-put 0 name members new ∙ ap (λ test. option_or (index_from 0 name members) (at_index test (0 + length members))) other ∙ or_none (index_from 0 name members))

-- a look-up that finds one member more finds the first members of the longer list
pub finds_end : (find more : List ℕ → Option ℕ) (members : List ArchiveMember) (new : ArchiveMember) → FindsFirst find members
    → ((name : List ℕ) → more name ≡ option_or (find name) (at_index (is_named name new) (length members))) → FindsFirst more (members ++ new ∷ [])
finds_end find more members new finds is = record {
  at = λ name. is name ∙ ap (λ r. option_or r (at_index (is_named name new) (length members))) (finds.at name)
      ∙ ap (λ n. option_or (index_from 0 name members) (at_index (is_named name new) n)) (let e : length members ≡ 0 + length members = omega arith in e)
      ∙ sym (index_from-end 0 name members new);
}

-- a look-up that has the index of a name where it found none before finds one name more
pub noted : (find more : List ℕ → Option ℕ) (name : List ℕ) (index : ℕ) → find name ≡ None
    → ((other : List ℕ) → more other ≡ cond (bytes_eq name other) (Some index) (find other)) → (other : List ℕ) → more other ≡ option_or (find other) (at_index (bytes_eq name other) index)
noted find more name index none updates other = updates other ∙ by (bytes_eq name other) refl
  where
    by : (test : Bool) → bytes_eq name other ≡ test → cond test (Some index) (find other) ≡ option_or (find other) (at_index test index)
    by true same = ap (λ found. option_or found (Some index)) (sym (ap find (sym ((bytes_eq-Decides name other).0 same)) ∙ none))
    by false differ = sym (or_none (find other))

-- the same for the first members of a list, one after another
pub finds_next : (find more : List ℕ → Option ℕ) (members : List ArchiveMember) (k : ℕ) (new : ArchiveMember) → FindsFirst find (take k members) → k < length members → new ≡ get_or members k new
    → ((name : List ℕ) → more name ≡ option_or (find name) (at_index (is_named name new) k)) → FindsFirst more (take (k + 1) members)
finds_next find more members k new finds below is updates =
    let next : take (k + 1) members ≡ take k members ++ new ∷ [] =
    ap (λ n. take n members) (let e : k + 1 ≡ suc k = omega arith in e) ∙ take-suc members k new below ∙ ap (λ v. take k members ++ v ∷ []) (sym is) in
    let len = length-take-le k members (omega (arith, below)) in
    subst (FindsFirst more) (sym next) (finds_end find more (take k members) new finds (λ name. updates name ∙ ap (λ n. option_or (find name) (at_index (is_named name new) n)) (sym len)))
