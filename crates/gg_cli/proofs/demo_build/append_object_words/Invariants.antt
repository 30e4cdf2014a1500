use Rattle.std.proofs.Common.{◌≡◌, ◌++◌}
use Rattle.gg_cli.specs.Demo.{object_words}
use Rattle.gg_cli.proofs.demo_build.append_object_words.Given as goal

abbrev pub invariant-sources : goal.invariant-sources
invariant-sources l = l.text ≡ l.initial.text ++ object_words l.index
