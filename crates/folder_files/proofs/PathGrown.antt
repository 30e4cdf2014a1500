-- A path in a folder, letter by letter.
use Rattle.std.proofs.Common.{◌≡◌, ℕ, ◌+◌, ◌<◌, List, [], ◌∷◌, ◌++◌, length, take, get_or, sym, ap, ◌∙◌}
use Rattle.std.proofs.lemmas.List.{take_more}
use mathlib.Core.List.{append_assoc}
use Rattle.folder_files.specs.Beside.{path_in}

-- one more letter
pub path_grown : (folder inside before after letter : List ℕ) (k : ℕ) → k < length inside → before ≡ path_in folder (take k inside) → after ≡ before ++ letter → letter ≡ get_or inside k 0 ∷ [] → after ≡ path_in folder (take (k + 1) inside)
path_grown folder inside before after letter k within begun pushed one =
    pushed
    ∙ ap (λ text. text ++ letter) begun
    ∙ ap (λ text. path_in folder (take k inside) ++ text) one
    ∙ append_assoc folder (47 ∷ take k inside) (get_or inside k 0 ∷ [])
    ∙ ap (λ text. path_in folder text) (sym (take_more inside k 0 within))
