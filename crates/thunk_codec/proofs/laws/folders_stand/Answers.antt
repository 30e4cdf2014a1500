use Rattle.thunk_codec.proofs.Folders.{folder_of-is_folder, folder_is_folder}
use Rattle.thunk_codec.proofs.laws.folders_stand.Goals as goal

pub returns-clause-again : goal.returns-clause-again
returns-clause-again c = folder_of-is_folder

pub returns-clause-normal : goal.returns-clause-normal
returns-clause-normal c = folder_is_folder
