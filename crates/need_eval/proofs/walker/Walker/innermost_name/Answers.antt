use Rattle.std.proofs.Common.{drop, refl}
use Rattle.need_eval.proofs.ThunkIsLeft.{first-of}
use Rattle.need_eval.proofs.WalkerStaysSound.{inside-entered, inside-gathered}
use Rattle.need_eval.proofs.walker.Walker.innermost_name.Goals as goal

pub returns : goal.returns
returns c = record {
  inner = c.in-Some.inner.now;
  outer = drop 1 c.args.self.now.frames.items;
  frames = first-of c.args.self.now.frames.items c.in-Some.inner.now (inside-entered c.args.self.now.frames.items c.args.self.now.level.rest.items c.requires) c.in-Some.ensures.lookup;
  named = refl;
  gathered = inside-gathered c.args.self.now.frames.items c.args.self.now.level.rest.items c.requires;
}
