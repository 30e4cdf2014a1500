use Rattle.folder_files.proofs.file_writer.path_beside.Goals as goal
use Rattle.folder_files.proofs.NamesApart.{path_apart}

pub returns-clause-apart : goal.returns-clause-apart
returns-clause-apart c = λ inside ascii. path_apart c.args.folder.now inside c.args.process c.args.named ascii
