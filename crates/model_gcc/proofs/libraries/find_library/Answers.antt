use Rattle.model_gcc.proofs.KnownPaths.{name_is, library_file_is_path}
use Rattle.model_gcc.proofs.libraries.find_library.Goals as goal

pub known_path-requires : goal.known_path-requires
known_path-requires c = rw (c.as_slice-2.ensures, c.in_ok-file.ensures) (library_file_is_path c.args.name.now (name_is c.args.name.now c.args.name.now c.requires))
