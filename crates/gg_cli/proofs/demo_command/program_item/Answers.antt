use Rattle.gg_cli.proofs.DemoFilesGrow.{program_is_path}
use Rattle.gg_cli.proofs.demo_command.program_item.Goals as goal

pub known_path-requires : goal.known_path-requires
known_path-requires c = program_is_path
