use Rattle.tool_text.proofs.SystemFolderIsRead.{system_missing, system_found}
use Rattle.tool_text.proofs.candidate_paths.in_system.Goals as goal

pub returns-in_default : goal.returns-in_default
returns-in_default c = system_missing c.in_ok-folder.field-0 c.args.file.now c.in_ok-folder.ensures c.in_default.is

pub returns : goal.returns
returns c = system_found c.in_ok-folder.field-0 c.in-Some.folder c.args.file.now c.join.result c.in_ok-folder.ensures c.in-Some.is c.join.ensures
