use Rattle.std.proofs.Common.{◌≡◌, take, string_bytes}
use Rattle.std.specs.Str.{IsAscii}
use Rattle.folder_files.specs.Beside.{path_in}
use Rattle.folder_files.proofs.whole_file.path_in.Given as goal

abbrev pub invariant-letters : goal.invariant-letters
invariant-letters l = IsAscii l.inside → string_bytes l.path ≡ path_in l.folder (take l.letter-index l.inside)
