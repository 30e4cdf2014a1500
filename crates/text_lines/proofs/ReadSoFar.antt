-- What a loop has read, and what is still read.
use Rattle.std.proofs.Common.{◌≡◌, ℕ, List, [], ◌∷◌, ◌++◌, append_assoc, Option, Some, None, refl, sym, ap}
use Rattle.text_lines.specs.Maybe.{◌>>=◌}

-- what was read before, and what is still read
abbrev pub with_prefix : {A : Type 0} → List A → Option (List A × List ℕ) → Option (List A × List ℕ)
with_prefix prefix read = read >>= λ x. Some (prefix ++ x.0, x.1)

pub with_prefix-more : {A : Type 0} (prefix : List A) (x : A) (read : Option (List A × List ℕ)) → with_prefix prefix (read >>= λ others. Some (x ∷ others.0, others.1)) ≡ with_prefix (prefix ++ x ∷ []) read
with_prefix-more prefix x (Some others) = ap (λ (v : List _). Some (v, others.1)) (sym (append_assoc prefix (x ∷ []) others.0))
with_prefix-more prefix x None = refl
