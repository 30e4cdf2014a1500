use Rattle.model_gcc.proofs.KnownPaths.{other_suffix_is_path}
use Rattle.model_gcc.proofs.outputs.file_output.Goals as goal

pub output_or-requires : goal.output_or-requires
output_or-requires c =
    rw (c.as_slice.ensures, c.in_ok-text.ensures, c.suffix_after.ensures, c.last.ensures) (other_suffix_is_path c.args.plan.now.stop c.args.path.now c.requires)
