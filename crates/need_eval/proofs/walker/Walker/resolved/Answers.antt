use Rattle.std.proofs.Common.{rules, drop}
use Rattle.need_eval.proofs.WalkerStaysSound.{sound-kinds}
use Rattle.need_eval.proofs.ThunkIsLeft.{first-of}
use Rattle.need_eval.proofs.walker.Walker.resolved.Goals as goal

pub resolve-requires-clause-kinds : goal.resolve-requires-clause-kinds
resolve-requires-clause-kinds c =
    let w = c.args.self.now in
    rw c.as_slice.ensures (sound-kinds w.frames.items w.level.done w.level.rest.items w.sound)

pub returns-in_ok-thunk-in-Some-clause-some : goal.returns-in_ok-thunk-in-Some-clause-some
returns-in_ok-thunk-in-Some-clause-some c = record {
  inner = c.in-Some.inner.now;
  outer = drop 1 c.args.self.now.frames.items;
  frames = first-of c.args.self.now.frames.items c.in-Some.inner.now (search rules) c.in-Some.ensures.lookup;
  named = search rules;
  resolved = rw c.as_slice.ensures at c.in_ok-thunk-in-Some.ensures;
}
