-- The names of some texts, each of them once, are those texts.
use Rattle.std.proofs.Common.{◌≡◌, ℕ, Bool, true, false, cond, List, [], ◌∷◌, ◌++◌, fold, bytes_eq, ◌||◌, refl, sym, ap, ◌∙◌}
use Rattle.std.proofs.lemmas.Slice.Eq.{bytes_eq-Decides}
use Rattle.std.specs.List.{list_all}
use Rattle.text_lines.specs.Among.{is_among}
use Rattle.tool_bin.specs.Names.{with_name}

or_assoc : (a b c : Bool) → ((a || b) || c) ≡ (a || (b || c))
or_assoc true b c = refl
or_assoc false b c = refl

or_false : (a : Bool) → (a || false) ≡ a
or_false true = refl
or_false false = refl

or_both : (a b : Bool) → (b ≡ true → a ≡ true) → a ≡ (a || b)
or_both true b from = refl
or_both false true from = from refl
or_both false false from = refl

-- a name at the end
is_among-end : (name : List ℕ) (names : List (List ℕ)) (last : List ℕ) → is_among (names ++ last ∷ []) name ≡ (is_among names name || bytes_eq name last)
is_among-end name [] last = or_false (bytes_eq name last)
is_among-end name (first ∷ names) last = ap (λ test. bytes_eq name first || test) (is_among-end name names last) ∙ sym (or_assoc (bytes_eq name first) (is_among names name) (bytes_eq name last))

-- one name more
is_among-with_name : (name : List ℕ) (names : List (List ℕ)) (new : List ℕ) → is_among (with_name names new) name ≡ (is_among names name || bytes_eq name new)
is_among-with_name name names new = by (is_among names new) refl
  where
    by : (test : Bool) → is_among names new ≡ test → is_among (cond test names (names ++ new ∷ [])) name ≡ (is_among names name || bytes_eq name new)
    by true among = or_both (is_among names name) (bytes_eq name new) (λ same. ap (λ n. is_among names n) ((bytes_eq-Decides name new).0 same) ∙ among)
    by false other = is_among-end name names new

among_more : (name : List ℕ) (texts names : List (List ℕ)) → is_among (fold with_name names texts) name ≡ (is_among names name || is_among texts name)
among_more name [] names = sym (or_false (is_among names name))
among_more name (text ∷ texts) names =
    among_more name texts (with_name names text)
    ∙ ap (λ test. test || is_among texts name) (is_among-with_name name names text)
    ∙ or_assoc (is_among names name) (bytes_eq name text) (is_among texts name)

pub is_among-names : (name : List ℕ) (texts : List (List ℕ)) → is_among (fold with_name [] texts) name ≡ is_among texts name
is_among-names name texts = among_more name texts []

-- inputs that are named by the texts are those that are named by their names
pub named_by_names : (inputs : List (List ℕ × List ℕ)) (texts : List (List ℕ)) → list_all (λ input. is_among (fold with_name [] texts) input.0) inputs ≡ list_all (λ input. is_among texts input.0) inputs
named_by_names inputs texts = λ i. list_all (λ input. is_among-names input.0 texts i) inputs
