-- Lists of what was answered Ok, as they grow by what was made.
use Rattle.std.specs.Prelude.{◌≡◌, ◌⊎◌, List, [], ◌∷◌, ◌++◌}

-- the last of what was to be made failed, which may have been made: what was answered Ok is what stands before it, once each
pub record ListsAllButLast {A : Type 0} (before made after : List A) : Type 0 where
  pub prefix : List A
  pub last : A
  pub split : made ≡ prefix ++ last ∷ []
  pub list : after ≡ before ++ prefix

-- what was made was answered Ok, once each and in order, after what was before; or all but the last, which failed
abbrev pub ListsMade : {A : Type 0} → List A → List A → List A → Type 0
ListsMade before made after = (after ≡ before ++ made) ⊎ ListsAllButLast before made after
