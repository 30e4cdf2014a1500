use Rattle.include_scan.proofs.ScannedFilesSuffice.{closed_suffice_for_jobs}
use Rattle.include_scan.proofs.laws.inputs_suffice.Goals as goal

pub returns : goal.returns
returns c files folders source paths closed all = closed_suffice_for_jobs files folders source paths closed all
