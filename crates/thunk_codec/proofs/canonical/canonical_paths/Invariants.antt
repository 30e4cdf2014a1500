use Rattle.std.proofs.Common.{◌≡◌, take, true}
use Rattle.std.specs.List.{list_all}
use Rattle.thunk_codec.specs.Path.{is_path}
use Rattle.thunk_codec.proofs.canonical.canonical_paths.Given as goal

abbrev pub invariant-texts : goal.invariant-texts
invariant-texts l = (l.paths ≡ take l.text-index l.texts) × (list_all is_path (take l.text-index l.texts) ≡ true)
