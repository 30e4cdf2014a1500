use Rattle.gg_cli.proofs.DemoFilesGrow.{header_is_path, main_is_path}
use Rattle.gg_cli.proofs.demo_build.named_files.Goals as goal

pub known_path-requires : goal.known_path-requires
known_path-requires c = header_is_path

pub known_path-requires-2 : goal.known_path-requires-2
known_path-requires-2 c = main_is_path
