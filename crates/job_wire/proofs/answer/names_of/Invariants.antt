use Rattle.std.proofs.Common.{◌≡◌, map, take}
use Rattle.object_name.specs.Name.{name_of}
use Rattle.job_wire.proofs.answer.names_of.Given as goal

abbrev pub invariant-objects : goal.invariant-objects
invariant-objects l = l.names ≡ map name_of (take l.object-index l.objects)
