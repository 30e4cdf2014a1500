use Rattle.std.proofs.Common.{sym, ◌∙◌, arith}
use Rattle.thunk_codec.proofs.Folders.{read_folder}
use Rattle.thunk_codec.proofs.folder.Folder.read.Goals as goal

pub folder_with-requires : goal.folder_with-requires
folder_with-requires c = read_folder c.args.text.now c.in-Some.path (sym c.in-Some.is ∙ c.in_ok-path.ensures) (let short = c.if-len-gt-MAX_PATH.false in omega arith)
