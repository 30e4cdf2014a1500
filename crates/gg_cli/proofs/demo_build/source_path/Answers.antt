use Rattle.std.proofs.Common.{arith}
use Rattle.gg_cli.proofs.DemoFilesGrow.{source_is_path}
use Rattle.gg_cli.proofs.demo_build.source_path.Goals as goal

pub known_path-requires : goal.known_path-requires
known_path-requires c =
    rw (c.as_slice.ensures, c.in_ok-append.ensures.ok, c.in_ok-write_number.ensures.ok, c.in_ok-text.ensures, c.from.ensures) (source_is_path c.args.number (omega (arith, c.ranges.number.fits)))
