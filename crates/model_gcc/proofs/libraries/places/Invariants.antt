use Rattle.std.proofs.Common.{◌≡◌, ◌++◌, ◌∷◌, [], length}
use Rattle.model_gcc.specs.Libraries.{system_folder, seen_from}
use Rattle.model_gcc.proofs.libraries.places.Given as goal

abbrev pub invariant-folders : goal.invariant-folders
invariant-folders l = l.paths ++ seen_from (l.rest ++ system_folder ∷ []) l.file ≡ seen_from (l.folders ++ system_folder ∷ []) l.file

abbrev pub decreases-folders : goal.decreases-folders
decreases-folders l = length l.rest
