-- The numbers of calls.
use Rattle.std.proofs.Common.{◌≡◌, ◌<◌, ℕ, suc, List, [], ◌∷◌, Bool, false, eqb, get_or, refl, arith, ◌∙◌, ap}
use Rattle.std.specs.Prelude.{◌||◌}
use Rattle.std.specs.List.{list_any}
use Rattle.std.proofs.lemmas.Bool.{ne_eqb}

-- a number above all that are listed isn't listed
pub none_listed : (numbers : List ℕ) (n : ℕ) → ((i : ℕ) → get_or numbers i 0 < n) → list_any (λ number. eqb number n) numbers ≡ false
none_listed [] n below = refl
none_listed (x ∷ xs) n below =
    let first = ne_eqb x n (λ e. let small = below 0 in omega (arith, e, small)) in
    ap (λ (b : Bool). b || list_any (λ number. eqb number n) xs) first ∙ none_listed xs n (λ i. below (suc i))
