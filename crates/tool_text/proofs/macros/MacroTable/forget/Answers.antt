use Rattle.tool_text.proofs.TableUpdates.{table_updated}
use Rattle.std.specs.Prelude.{None}
use Rattle.tool_text.proofs.macros.MacroTable.forget.Goals as goal

pub returns : goal.returns
returns c = table_updated (λ key. key.items) c.args.name.now c.args.self.now.texts c.remove.new.self None c.remove.ensures.updates
