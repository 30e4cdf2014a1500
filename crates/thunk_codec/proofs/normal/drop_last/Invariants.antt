use Rattle.std.proofs.Common.{◌≡◌, vec_len}
use Rattle.std.specs.List.{before_last}
use Rattle.thunk_codec.specs.Path.{is_slash}
use Rattle.thunk_codec.proofs.normal.drop_last.Given as goal

abbrev pub invariant-bytes : goal.invariant-bytes
invariant-bytes l = before_last is_slash l.path-inside.0.items ≡ before_last is_slash l.fn.path

abbrev pub decreases-bytes : goal.decreases-bytes
decreases-bytes l = vec_len l.path-inside.0
