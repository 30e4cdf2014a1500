use Rattle.model_gcc.proofs.KnownPaths.{four_digits_are_path}
use Rattle.model_gcc.proofs.linking.Gathering.with_input.Goals as goal

pub known_path-requires : goal.known_path-requires
known_path-requires c = rw c.four_digits-number.ensures (four_digits_are_path _)
