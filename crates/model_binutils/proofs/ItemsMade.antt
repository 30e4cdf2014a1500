-- Lists that are made item by item, each of the next item of another list and of its number.
use Rattle.std.proofs.Common.{◌≡◌, ℕ, suc, ◌≤◌, ◌<◌, ◌-◌, List, [], ◌∷◌, ◌++◌, length, get_or, take, drop, append_assoc, append-nil, sym, ap, ◌∙◌, arith}
use Rattle.std.proofs.lemmas.List.{take_rest}

module _ {A B : Type 0} (items : ℕ → List A → List B) (one : ℕ → A → B) (empty : (n : ℕ) → items n [] ≡ []) (more : (n : ℕ) (x : A) (xs : List A) → items n (x ∷ xs) ≡ one n x ∷ items (suc n) xs) where
  -- one item more
  pub item_made : (n : ℕ) (rest : List A) (x : A) (made whole : List B) → 1 ≤ length rest → x ≡ get_or rest 0 x → made ++ items n rest ≡ whole
      → (made ++ one n x ∷ []) ++ items (suc n) (take (length rest - 1) (drop 1 rest)) ≡ whole
  item_made n [] x made whole some is so_far = absurd (omega (arith, some))
  item_made n (first ∷ others) x made whole some is so_far =
      rw (take_rest (first ∷ others) 1)
      (append_assoc made (one n x ∷ []) (items (suc n) others) ∙ ap (λ (v : A). made ++ (one n v ∷ items (suc n) others)) is ∙ ap (λ (v : List B). made ++ v) (sym (more n first others)) ∙ so_far)

  -- no item is left
  pub all_made : (n : ℕ) (rest : List A) (made whole : List B) → length rest < 1 → made ++ items n rest ≡ whole → made ≡ whole
  all_made n [] made whole none so_far = sym (ap (λ (v : List B). made ++ v) (empty n) ∙ append-nil made) ∙ so_far
  all_made n (first ∷ others) made whole none so_far = absurd (omega (arith, none))
