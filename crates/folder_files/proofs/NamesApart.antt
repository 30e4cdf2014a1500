-- What is written beside others has a name that no ASCII text is.
use Rattle.std.proofs.Common.{◌≡◌, ◌≢◌, ℕ, ◌<◌, List, ◌∷◌, ap, arith}
use Rattle.std.proofs.lemmas.List.{append_cancel_left}
use Rattle.std.specs.Prelude.{slice_index}
use Rattle.std.specs.Str.{IsAscii}
use Rattle.folder_files.specs.Beside.{path_in, name_beside}

-- an ASCII text is no name of a file that is written beside others
name_apart : (inside : List ℕ) (process count : ℕ) → IsAscii inside → 47 ∷ name_beside process count ≢ 47 ∷ inside
name_apart inside process count ascii same =
    let first : 194 ≡ slice_index inside 0 = ap (λ text. slice_index text 1) same in
    let small : slice_index inside 0 < 128 = ascii 0 in
    omega (arith, first, small)

-- nor is the path of an ASCII text in a folder the path of such a file there
pub path_apart : (folder inside : List ℕ) (process count : ℕ) → IsAscii inside → path_in folder (name_beside process count) ≢ path_in folder inside
path_apart folder inside process count ascii same =
    name_apart inside process count ascii (append_cancel_left folder (47 ∷ name_beside process count) (47 ∷ inside) same)
