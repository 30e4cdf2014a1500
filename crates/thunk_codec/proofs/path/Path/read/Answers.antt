use Rattle.std.proofs.Common.{sym, ◌∙◌, arith}
use Rattle.std.proofs.lemmas.Bool.{iff_false}
use Rattle.thunk_codec.proofs.Paths.{short_path, path_is_path}
use Rattle.thunk_codec.proofs.path.Path.read.Goals as goal

pub invariant_of-result : goal.invariant_of-result
invariant_of-result c = path_is_path c.args.text.now c.in-Some.text (short_path c.args.text.now c.in-Some.text (sym c.in-Some.is ∙ c.in_ok-text.ensures) (iff_false c.is_empty.ensures c.if-is_empty.false) (let short = c.if-len-gt-MAX_PATH.false in omega arith))
