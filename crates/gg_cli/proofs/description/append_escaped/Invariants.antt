use Rattle.std.proofs.Common.{◌≡◌, ◌++◌, take}
use Rattle.std.specs.List.{flat_map}
use Rattle.gg_cli.specs.Description.{escaped_byte}
use Rattle.gg_cli.proofs.description.append_escaped.Given as goal

abbrev pub invariant-bytes : goal.invariant-bytes
invariant-bytes l = l.text ≡ l.initial.text ++ flat_map escaped_byte (take l.byte-index l.bytes)
