use Rattle.std.proofs.Common.{◌≡◌, ◌++◌}
use Rattle.gg_cli.specs.Demo.{compile_lines}
use Rattle.gg_cli.proofs.demo_build.append_compile_lines.Given as goal

abbrev pub invariant-sources : goal.invariant-sources
invariant-sources l = l.text ≡ l.initial.text ++ compile_lines l.index
