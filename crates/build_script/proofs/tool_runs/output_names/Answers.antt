use Rattle.build_script.proofs.ToolsAreRun.{out-is_path}
use Rattle.build_script.proofs.tool_runs.output_names.Goals as goal

pub known_path-requires : goal.known_path-requires
known_path-requires c = out-is_path
