use Rattle.model_binutils.proofs.InputPaths.{member_is_path}
use Rattle.model_binutils.proofs.insertion.member_input.Goals as goal

pub known_path-requires : goal.known_path-requires
known_path-requires c = rw (c.as_slice.ensures, c.in_ok-append.ensures.ok, c.in_ok-text.ensures, c.four_digits.ensures) (member_is_path c.args.number)
