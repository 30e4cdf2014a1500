use Rattle.std.proofs.Common.{sym, ◌∙◌}
use Rattle.model_gcc.proofs.KnownPaths.{system_folder_found, system_folder_is}
use Rattle.model_gcc.proofs.libraries.system_folder.Goals as goal

pub unreachable-requires : goal.unreachable-requires
unreachable-requires c = system_folder_found (sym (c.in_ok-folder.ensures) ∙ c.in-None.is)

pub returns : goal.returns
returns c = system_folder_is c.in-Some.folder (sym c.in-Some.is ∙ c.in_ok-folder.ensures)
