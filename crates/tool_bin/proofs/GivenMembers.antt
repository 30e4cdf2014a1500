-- Taking the inputs of members one after another, as a loop does.
use Rattle.std.proofs.Common.{◌≡◌, ℕ, ◌+◌, ◌-◌, ◌<◌, ◌≤◌, List, [], ◌∷◌, ◌++◌, length, take, drop, get_or, append_assoc, Option, Some, None, refl, sym, ap, ◌∙◌, arith}
use Rattle.std.proofs.lemmas.List.{append-nil, take_rest, get_or-drop, drop_all, drop-drop, length-drop}
use Rattle.text_lines.specs.Maybe.{◌>>=◌}
use Rattle.tool_bin.specs.Archive.{ArchiveMember}
use Rattle.tool_bin.specs.Ar.{members_from, member_from}

-- the members and the inputs after them
abbrev pub Read : Type 0
Read = Option (List ArchiveMember × List (List ℕ × List ℕ))

-- what was taken before, and what is still taken
abbrev pub given_after : List ArchiveMember → Read → Read
given_after prefix read = read >>= λ x. Some (prefix ++ x.0, x.1)

-- some inputs are taken, and the others give what is left
pub record Given (names : List (List ℕ)) (inputs : List (List ℕ × List ℕ)) (number : ℕ) (prefix : List ArchiveMember) (rest : List (List ℕ × List ℕ)) : Type 0 where
  pub goes_on : given_after prefix (members_from number (drop number names) rest) ≡ members_from 0 names inputs

given_after-more : (prefix : List ArchiveMember) (x : ArchiveMember) (read : Read) → given_after prefix (read >>= λ others. Some (x ∷ others.0, others.1)) ≡ given_after (prefix ++ x ∷ []) read
given_after-more prefix x (Some others) = ap (λ (v : List ArchiveMember). Some (v, others.1)) (sym (append_assoc prefix (x ∷ []) others.0))
given_after-more prefix x None = refl

-- no input is left for a name
missed_by : (number : ℕ) (names : List (List ℕ)) (rest : List (List ℕ × List ℕ)) → 0 < length names → length rest < 1 → members_from number names rest ≡ None
unfolding members_from
missed_by number [] rest some none = absurd (omega (arith, some))
missed_by number (name ∷ names) [] some none = refl
missed_by number (name ∷ names) (input ∷ inputs) some none = absurd (omega (arith, none))

pub given_missed : (names : List (List ℕ)) (inputs rest : List (List ℕ × List ℕ)) (number : ℕ) (prefix : List ArchiveMember) → Given names inputs number prefix rest → number < length names → length rest < 1 → None ≡ members_from 0 names inputs
given_missed names inputs rest number prefix given below none =
    sym (ap (given_after prefix) (missed_by number (drop number names) rest (omega (arith, length-drop number names)) none)) ∙ given.goes_on

-- the first input isn't that of the first name
other_by : (number : ℕ) (names : List (List ℕ)) (rest : List (List ℕ × List ℕ)) (name : List ℕ) (input : List ℕ × List ℕ) → 0 < length names → 1 ≤ length rest → name ≡ get_or names 0 name → input ≡ get_or rest 0 input
    → None ≡ member_from number name input → members_from number names rest ≡ None
unfolding members_from
other_by number [] rest name input some more is_name is_input other = absurd (omega (arith, some))
other_by number (first ∷ names) [] name input some more is_name is_input other = absurd (omega (arith, more))
other_by number (first ∷ names) (given ∷ inputs) name input some more is_name is_input other = rw (sym is_name, sym is_input, sym other) refl

prefix_name : (names : List (List ℕ)) (number : ℕ) (name : List ℕ) → name ≡ get_or names number name → name ≡ get_or (drop number names) 0 name
prefix_name names number name is = is ∙ sym (get_or-drop number names 0 name ∙ ap (λ (n : ℕ). get_or names n name) (let e : number + 0 ≡ number = omega arith in e))

pub given_other : (names : List (List ℕ)) (inputs rest : List (List ℕ × List ℕ)) (number : ℕ) (prefix : List ArchiveMember) (name text : List ℕ) (input : List ℕ × List ℕ) → Given names inputs number prefix rest
    → number < length names → 1 ≤ length rest → name ≡ get_or names number name → text ≡ name → input ≡ get_or rest 0 input → None ≡ member_from number text input → None ≡ members_from 0 names inputs
given_other names inputs rest number prefix name text input given below more is_name is_text is_input other =
    sym (ap (given_after prefix) (other_by number (drop number names) rest name input (omega (arith, length-drop number names)) more (prefix_name names number name is_name) is_input (other ∙ ap (λ (v : List ℕ). member_from number v input) is_text))) ∙ given.goes_on

-- one input more is taken
next_by : (number : ℕ) (names : List (List ℕ)) (rest : List (List ℕ × List ℕ)) (name : List ℕ) (input : List ℕ × List ℕ) (member : ArchiveMember) → 0 < length names → 1 ≤ length rest
    → name ≡ get_or names 0 name → input ≡ get_or rest 0 input → Some member ≡ member_from number name input
    → members_from number names rest ≡ (members_from (number + 1) (drop 1 names) (drop 1 rest) >>= λ others. Some (member ∷ others.0, others.1))
unfolding members_from
next_by number [] rest name input member some more is_name is_input made = absurd (omega (arith, some))
next_by number (first ∷ names) [] name input member some more is_name is_input made = absurd (omega (arith, more))
next_by number (first ∷ names) (given ∷ inputs) name input member some more is_name is_input made = rw (sym is_name, sym is_input, sym made) refl

pub given_more : (names : List (List ℕ)) (inputs rest : List (List ℕ × List ℕ)) (number : ℕ) (prefix new : List ArchiveMember) (name text : List ℕ) (input : List ℕ × List ℕ) (member : ArchiveMember) → Given names inputs number prefix rest
    → number < length names → 1 ≤ length rest → name ≡ get_or names number name → text ≡ name → input ≡ get_or rest 0 input → Some member ≡ member_from number text input → new ≡ prefix ++ member ∷ []
    → Given names inputs (number + 1) new (take (length rest - 1) (drop 1 rest))
given_more names inputs rest number prefix new name text input member given below more is_name is_text is_input made pushed = record {
  goes_on = ap (λ (v : List ArchiveMember). given_after v (members_from (number + 1) (drop (number + 1) names) (take (length rest - 1) (drop 1 rest)))) pushed
      ∙ ap (λ (v : List (List ℕ × List ℕ)). given_after (prefix ++ member ∷ []) (members_from (number + 1) (drop (number + 1) names) v)) (take_rest rest 1)
      ∙ ap (λ (v : List (List ℕ)). given_after (prefix ++ member ∷ []) (members_from (number + 1) v (drop 1 rest))) (sym (drop-drop 1 number names))
      ∙ sym (given_after-more prefix member (members_from (number + 1) (drop 1 (drop number names)) (drop 1 rest)))
      ∙ sym (ap (given_after prefix) (next_by number (drop number names) rest name input member (omega (arith, length-drop number names)) more (prefix_name names number name is_name) is_input (made ∙ ap (λ (v : List ℕ). member_from number v input) is_text)))
      ∙ given.goes_on;
}

-- all names have their inputs
pub given_ends : (names : List (List ℕ)) (inputs rest : List (List ℕ × List ℕ)) (number : ℕ) (prefix : List ArchiveMember) → Given names inputs number prefix rest → length names ≤ number → Some (prefix, rest) ≡ members_from 0 names inputs
unfolding members_from
given_ends names inputs rest number prefix given done =
    ap (λ (v : List ArchiveMember). Some (v, rest)) (sym (append-nil prefix)) ∙ ap (λ (v : List (List ℕ)). given_after prefix (members_from number v rest)) (sym (drop_all number names done)) ∙ given.goes_on
