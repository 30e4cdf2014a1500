use Rattle.std.proofs.Common.{arith}
use Rattle.file_tree.proofs.FirstComponent.{ends_at_slash, ends_with_path}
use Rattle.file_tree.proofs.folder_tree.first_component.Goals as goal

pub returns-then-byte-eq47 : goal.returns-then-byte-eq47
returns-then-byte-eq47 c = ends_at_slash c.args.text.now c.loop-i.i c.loop-i-test.true c.loop-i.invariant c.if-byte-eq47.true

pub returns : goal.returns
returns c = ends_with_path c.args.text.now c.loop-i.i (let past = c.loop-i-test.false in omega arith) c.loop-i.invariant
