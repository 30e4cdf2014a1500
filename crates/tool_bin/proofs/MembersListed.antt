-- Listing the symbols of members one after another, as a loop does.
use Rattle.std.proofs.Common.{◌≡◌, ℕ, zero, suc, ◌+◌, ◌-◌, ◌<◌, ◌≤◌, List, [], ◌∷◌, ◌++◌, length, map, take, drop, get_or, append_assoc, refl, sym, ap, subst, ◌∙◌, arith}
use Rattle.std.specs.Prelude.{replicate, flat_map}
use Rattle.std.proofs.lemmas.List.{append-nil, map-append, take_rest}
use Rattle.std.proofs.lemmas.Grind.{flat_map-append}
use Rattle.tool_bin.specs.Archive.{ArchiveMember}
use Rattle.tool_bin.specs.SymbolTable.{capped, zero_terminated, part_len, offsets_from, symbols_of}

-- some members are listed, and the rest gives what is left
pub record Listing (members rest : List ArchiveMember) (offsets : List ℕ) (names : List ℕ) (offset : ℕ) : Type 0 where
  pub here : ℕ
  pub at : offset ≡ capped here
  pub offsets_on : offsets ++ map capped (offsets_from here rest) ≡ map capped (offsets_from 0 members)
  pub names_on : names ++ flat_map zero_terminated (flat_map symbols_of rest) ≡ flat_map zero_terminated (flat_map symbols_of members)

pub capped-more : (here more : ℕ) → capped (capped here + more) ≡ capped (here + more)
capped-more here more = omega arith

map-replicate : (n here : ℕ) → map capped (replicate n here) ≡ replicate n (capped here)
map-replicate zero here = refl
map-replicate (suc n) here = ap (λ (v : List ℕ). capped here ∷ v) (map-replicate n here)

-- the offsets of a member, and those after it
offsets_step : (here n size : ℕ) (after : List ℕ) → map capped (replicate n here ++ after) ≡ replicate n (capped here) ++ map capped after
offsets_step here n size after = map-append capped (replicate n here) after ∙ ap (λ (v : List ℕ). v ++ map capped after) (map-replicate n here)

more_offsets : (here : ℕ) (member : ArchiveMember) (others : List ArchiveMember) (offsets all : List ℕ) (offset : ℕ) → offset ≡ capped here → offsets ++ map capped (offsets_from here (member ∷ others)) ≡ all
    → (offsets ++ replicate (length (symbols_of member)) offset) ++ map capped (offsets_from (here + part_len (length member.contents)) others) ≡ all
unfolding offsets_from
more_offsets here member others offsets all offset at on =
    let n = length (symbols_of member) in
    let after = offsets_from (here + part_len (length member.contents)) others in
    append_assoc offsets (replicate n offset) (map capped after)
    ∙ ap (λ (v : List ℕ). offsets ++ (v ++ map capped after)) (ap (replicate n) at)
    ∙ ap (λ (v : List ℕ). offsets ++ v) (sym (offsets_step here n 0 after)) ∙ on

more_names : (member : ArchiveMember) (others : List ArchiveMember) (names all : List ℕ) → names ++ flat_map zero_terminated (flat_map symbols_of (member ∷ others)) ≡ all
    → (names ++ flat_map zero_terminated (symbols_of member)) ++ flat_map zero_terminated (flat_map symbols_of others) ≡ all
more_names member others names all on =
    append_assoc names (flat_map zero_terminated (symbols_of member)) (flat_map zero_terminated (flat_map symbols_of others))
    ∙ ap (λ (v : List ℕ). names ++ v) (sym (flat_map-append zero_terminated (symbols_of member) (flat_map symbols_of others))) ∙ on

-- one member more is listed
pub listing_more : (members others : List ArchiveMember) (member : ArchiveMember) (offsets new_offsets names new_names : List ℕ) (offset new_offset : ℕ) → Listing members (member ∷ others) offsets names offset
    → new_offsets ≡ offsets ++ replicate (length (symbols_of member)) offset → new_names ≡ names ++ flat_map zero_terminated (symbols_of member) → new_offset ≡ capped (offset + part_len (length member.contents))
    → Listing members others new_offsets new_names new_offset
listing_more members others member offsets new_offsets names new_names offset new_offset listing is_offsets is_names is_offset = record {
  here = listing.here + part_len (length member.contents);
  at = is_offset ∙ ap (λ (v : ℕ). capped (v + part_len (length member.contents))) listing.at ∙ capped-more listing.here (part_len (length member.contents));
  offsets_on = ap (λ (v : List ℕ). v ++ map capped (offsets_from (listing.here + part_len (length member.contents)) others)) is_offsets
      ∙ more_offsets listing.here member others offsets (map capped (offsets_from 0 members)) offset listing.at listing.offsets_on;
  names_on = ap (λ (v : List ℕ). v ++ flat_map zero_terminated (flat_map symbols_of others)) is_names ∙ more_names member others names (flat_map zero_terminated (flat_map symbols_of members)) listing.names_on;
}

-- all members are listed
pub listing_ends : (members : List ArchiveMember) (offsets names : List ℕ) (offset : ℕ) → Listing members [] offsets names offset
    → (offsets ≡ map capped (offsets_from 0 members)) × (names ≡ flat_map zero_terminated (flat_map symbols_of members))
unfolding offsets_from
listing_ends members offsets names offset listing = (sym (append-nil offsets) ∙ listing.offsets_on, sym (append-nil names) ∙ listing.names_on)

-- ---- the same, as the code has it

listing_next : (members rest : List ArchiveMember) (member : ArchiveMember) (offsets new_offsets names new_names : List ℕ) (offset size new_offset : ℕ) → Listing members rest offsets names offset
    → 1 ≤ length rest → member ≡ get_or rest 0 member
    → new_offsets ≡ offsets ++ replicate (length (symbols_of member)) offset → new_names ≡ names ++ flat_map zero_terminated (symbols_of member) → new_offset ≡ capped (offset + part_len size) → size ≡ length member.contents
    → Listing members (drop 1 rest) new_offsets new_names new_offset
listing_next members [] member offsets new_offsets names new_names offset size new_offset listing some is is_offsets is_names is_offset is_size = absurd (omega (arith, some))
listing_next members (first ∷ others) member offsets new_offsets names new_names offset size new_offset listing some is is_offsets is_names is_offset is_size =
    listing_more members others member offsets new_offsets names new_names offset new_offset (subst (λ (v : ArchiveMember). Listing members (v ∷ others) offsets names offset) (sym is) listing)
    is_offsets is_names (is_offset ∙ ap (λ (v : ℕ). capped (offset + part_len v)) is_size)

pub listing_goes_on : (members rest : List ArchiveMember) (member : ArchiveMember) (offsets new_offsets names new_names contents : List ℕ) (offset new_offset : ℕ) → Listing members rest offsets names offset
    → 1 ≤ length rest → member ≡ get_or rest 0 member
    → new_offsets ≡ offsets ++ replicate (length (symbols_of member)) offset → new_names ≡ names ++ flat_map zero_terminated (symbols_of member) → new_offset ≡ capped (offset + part_len (length contents)) → contents ≡ member.contents
    → Listing members (take (length rest - 1) (drop 1 rest)) new_offsets new_names new_offset
listing_goes_on members rest member offsets new_offsets names new_names contents offset new_offset listing some is is_offsets is_names is_offset is_contents =
    subst (λ (v : List ArchiveMember). Listing members v new_offsets new_names new_offset) (sym (take_rest rest 1))
    (listing_next members rest member offsets new_offsets names new_names offset (length contents) new_offset listing some is is_offsets is_names is_offset (ap length is_contents))

pub listing_done : (members rest : List ArchiveMember) (offsets names : List ℕ) (offset : ℕ) → Listing members rest offsets names offset → length rest < 1
    → (offsets ≡ map capped (offsets_from 0 members)) × (names ≡ flat_map zero_terminated (flat_map symbols_of members))
listing_done members [] offsets names offset listing none = listing_ends members offsets names offset listing
listing_done members (first ∷ others) offsets names offset listing none = absurd (omega (arith, none))
