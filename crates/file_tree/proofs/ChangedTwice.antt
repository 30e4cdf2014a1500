-- Changes of trees, made once or twice.
use Rattle.std.proofs.Common.{◌≡◌, inl, inr, ℕ, Bool, true, false, cond, List, Option, Some, None, refl, ap, ◌∙◌}
use Rattle.std.specs.Prelude.{bytes_eq}
use Rattle.file_tree.specs.Files.{Files, after_change, MayChange}
use Rattle.file_tree.specs.declared.change.Change.{Change}
use Rattle.file_tree.specs.declared.change.Change.TheVariants.{Written, Removed}

-- of two choices by one test the inner one goes by the outer
chosen_once : {A : Type 0} (b : Bool) (x y z : A) → cond b x (cond b y z) ≡ cond b x z
chosen_once true x y z = refl
chosen_once false x y z = refl

-- a change made twice is made once
pub after_change-twice : (files : Files) (change : Change) → after_change (after_change files change) change ≡ after_change files change
after_change-twice files (Written path bytes) = λ i other. chosen_once {A = Option (List ℕ)} (bytes_eq other path) (Some bytes) (Some bytes) (files other) i
after_change-twice files (Removed path) = λ i other. chosen_once {A = Option (List ℕ)} (bytes_eq other path) None None (files other) i

-- a change that may have been made, and was tried again and made
pub made_again : (old now new : Files) (change : Change) → MayChange old change now → new ≡ after_change now change → new ≡ after_change old change
made_again old now new change (inl e) made = made ∙ ap (λ (f : Files). after_change f change) e
made_again old now new change (inr e) made = made ∙ ap (λ (f : Files). after_change f change) e ∙ after_change-twice old change

-- a change that may have been made, and was tried again and may have been made
pub MayChange-again : (old now new : Files) (change : Change) → MayChange old change now → MayChange now change new → MayChange old change new
MayChange-again old now new change (inl e) (inl f) = inl (f ∙ e)
MayChange-again old now new change (inr e) (inl f) = inr (f ∙ e)
MayChange-again old now new change may (inr f) = inr (made_again old now new change may f)
