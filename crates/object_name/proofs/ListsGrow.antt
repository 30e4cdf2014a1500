-- Lists of what was answered Ok, one after another.
use Rattle.std.proofs.Common.{◌≡◌, List, [], ◌∷◌, ◌++◌, inl, inr, sym, ap, ◌∙◌, append_assoc}
use Rattle.object_name.specs.Made.{ListsMade}

-- a list that grew by some, and then by what was made after them
pub ListsMade-after : {A : Type 0} (before mid after first made : List A) → mid ≡ before ++ first → ListsMade mid made after → ListsMade before (first ++ made) after
ListsMade-after before mid after first made grown (inl all) = inl (all ∙ ap (λ l. l ++ made) grown ∙ append_assoc before first made)
ListsMade-after before mid after first made grown (inr h) = inr (record {
  prefix = first ++ h.prefix;
  last = h.last;
  split = ap (λ l. first ++ l) h.split ∙ sym (append_assoc first h.prefix (h.last ∷ []));
  list = h.list ∙ ap (λ l. l ++ h.prefix) grown ∙ append_assoc before first h.prefix;
})
