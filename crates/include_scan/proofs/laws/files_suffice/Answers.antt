use Rattle.include_scan.proofs.ClosedSetSuffices.{preprocessed_agree}
use Rattle.include_scan.proofs.laws.files_suffice.Goals as goal

pub returns : goal.returns
returns c files folders macros source is_in closed = preprocessed_agree files folders source is_in closed macros
