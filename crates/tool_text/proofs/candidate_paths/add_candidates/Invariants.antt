use Rattle.std.proofs.Common.{◌≡◌, ◌++◌, map, take}
use Rattle.thunk_codec.specs.Folder.{joined_from}
use Rattle.tool_text.proofs.candidate_paths.add_candidates.Given as goal

abbrev pub invariant-folders : goal.invariant-folders
invariant-folders l = l.all ≡ l.fn.prefix ++ map (λ folder. joined_from folder l.file) (take l.folder-index l.folders)
