use Rattle.file_tree.proofs.PublicLaws.{may_be_changed}
use Rattle.gg_cli.proofs.FilesAreWrittenInOrder.{is_filed}
use Rattle.gg_cli.proofs.value_files.write_bytes.Goals as goal

pub returns-in-Ok-clause-filed : goal.returns-in-Ok-clause-filed
returns-in-Ok-clause-filed g c tells = is_filed _ _ _ _ (c.in-Ok.ensures.made tells) (c.in-Ok.ensures.listed tells)

pub returns-in-Err-Failed-clause-filed : goal.returns-in-Err-Failed-clause-filed
returns-in-Err-Failed-clause-filed g c tells = may_be_changed _ _ _ (c.in-Err-Failed.ensures.kept tells) (c.in-Err-Failed.ensures.unlisted tells)

pub returns-in-Err-Memory-clause-filed : goal.returns-in-Err-Memory-clause-filed
returns-in-Err-Memory-clause-filed g c tells = may_be_changed _ _ _ (c.in-Err-Memory.ensures.kept tells) (c.in-Err-Memory.ensures.unlisted tells)
