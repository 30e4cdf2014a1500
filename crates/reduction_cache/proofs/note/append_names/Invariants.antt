use Rattle.std.proofs.Common.{◌≡◌, ◌++◌, take}
use Rattle.std.specs.List.{flat_map, AllByRecursion}
use Rattle.object_name.specs.Name.{IsName}
use Rattle.reduction_cache.specs.Note.{name_line}
use Rattle.reduction_cache.proofs.note.append_names.Given as goal

abbrev pub invariant-names : goal.invariant-names
invariant-names l =
    record {
      lines : l.text ≡ l.initial.text ++ flat_map name_line (take l.name-index l.names);
      names : AllByRecursion IsName (take l.name-index l.names);
    }
