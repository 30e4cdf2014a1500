use Rattle.std.proofs.Common.{◌≡◌, ◌++◌}
use Rattle.gg_cli.specs.Demo.{sources}
use Rattle.gg_cli.proofs.demo_build.push_sources.Given as goal

abbrev pub invariant-sources : goal.invariant-sources
invariant-sources l = l.files ≡ l.initial.files ++ sources l.index
