use Rattle.build_script.specs.ScriptLines.{script_lines}
use Rattle.gg_cli.proofs.DemoMakesTheAnswer.{script_made, script_stops}
use Rattle.gg_cli.proofs.demo_command.make_thunks.Goals as goal

pub returns-in-Ok-clause-made : goal.returns-in-Ok-clause-made
returns-in-Ok-clause-made c = script_made (script_lines c.args.script.now) _ _ (c.in-Ok.ensures.exact tt tt)

pub returns-in-Err-clause-made : goal.returns-in-Err-clause-made
returns-in-Err-clause-made c = rw c.line_fault.ensures.is_fault (script_stops (script_lines c.args.script.now) _ _ (c.in-Err.ensures.exact tt tt))
