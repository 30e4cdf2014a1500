use Rattle.std.proofs.Common.{arith}
use Rattle.model_gcc.proofs.KnownPaths.{folder_seen, last_folder_seen}
use Rattle.model_gcc.proofs.libraries.places.Goals as goal

pub folders-preserved : goal.folders-preserved
folders-preserved c =
    folder_seen c.folders.paths c.in_ok-more.more c.folders.rest.now c.folder-item.result c.args.file.now _ (omega arith) c.folder-item.is (c.in_ok-more.ensures) c.folders.invariant

pub returns : goal.returns
returns c =
    last_folder_seen c.folders.paths c.folders.rest.now c.in_ok-last.last c.args.file.now _ c.with_folder-2.result (omega arith) c.in_ok-last.ensures c.folders.invariant c.with_folder-2.ensures
