-- The folder of the system is a folder.
use Rattle.std.proofs.Common.{◌≡◌, ℕ, List, Option, Some, None, Result, refl, sym, subst, ◌∙◌}
use Rattle.std.specs.Prelude.{codes, IfOk}
use Rattle.std.proofs.lemmas.Option.{same_Some}
use Rattle.thunk_codec.specs.Folder.{folder_of, joined_from}
use Rattle.thunk_codec.specs.Path.{components_of, after_pieces}

system_read : folder_of (codes "sys/include") ≡ Some (codes "sys/include")
unfolding folder_of components_of after_pieces
system_read = refl

none_is_some : {A B : Type 0} (x : B) → None ≡ Some x → A
none_is_some x e = absurd cc

pub system_missing : (read : Option (List ℕ)) (file : List ℕ) → read ≡ folder_of (codes "sys/include") → read ≡ None → None ≡ joined_from (codes "sys/include") file
system_missing read file is none = none_is_some _ (sym none ∙ is ∙ system_read)

pub system_found : {E : Type 0} (read : Option (List ℕ)) (folder file : List ℕ) (result : Result (Option (List ℕ)) E) → read ≡ folder_of (codes "sys/include") → read ≡ Some folder
    → IfOk result (λ place. place ≡ joined_from folder file) → IfOk result (λ place. place ≡ joined_from (codes "sys/include") file)
system_found read folder file result is some joined =
    subst (λ (v : List ℕ). IfOk result (λ place. place ≡ joined_from v file)) (same_Some folder (codes "sys/include") (sym some ∙ is ∙ system_read)) joined
