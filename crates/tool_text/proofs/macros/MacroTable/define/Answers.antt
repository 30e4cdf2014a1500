use Rattle.std.proofs.Common.{rules}
use Rattle.tool_text.proofs.TableUpdates.{table_defined}
use Rattle.tool_text.proofs.macros.MacroTable.define.Goals as goal

pub returns : goal.returns
returns c =
    table_defined (λ key. key.items) c.in_ok-key.key c.args.name.now c.args.self.now.texts c.insert.new.self c.args.text.now c.in_ok-text.text c.in_ok-insert.ensures.updates (search rules) c.in_ok-text.ensures
