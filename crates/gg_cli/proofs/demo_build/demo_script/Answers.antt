use Rattle.std.proofs.Common.{◌++◌, ◌∙◌, ap}
use Rattle.gg_cli.specs.Demo.{compile_lines}
use Rattle.gg_cli.proofs.DemoFilesGrow.{script_is}
use Rattle.gg_cli.proofs.demo_build.demo_script.Goals as goal

pub returns : goal.returns
returns c =
    script_is c.args.count _ _ _ _ (c.in_ok-append_compile_lines.ensures ∙ ap (λ l. l ++ compile_lines c.args.count) c.new-text.ensures) c.in_ok-append.ensures.ok
    c.in_ok-append_object_words.ensures c.in_ok-append-2.ensures.ok
