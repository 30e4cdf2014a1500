use Rattle.std.proofs.Common.{sym, ◌∙◌}
use Rattle.std.proofs.lemmas.Bool.{iff_false}
use Rattle.thunk_codec.proofs.Paths.{piece_adds, piece_fails, piece_climbs}
use Rattle.thunk_codec.proofs.normal.add_piece.Goals as goal

pub returns-then-not-climbs : goal.returns-then-not-climbs
returns-then-not-climbs c = λ before h is. piece_adds before c.args.piece.now c.args.path.now c.push_component.new.path h is (sym c.is_idle.ensures ∙ c.if-is_idle.false) (sym c.climbs.ensures ∙ c.if-not-climbs.true) c.in_ok-push_component.ensures

pub returns-then-is_empty : goal.returns-then-is_empty
returns-then-is_empty c = λ before h is. piece_fails before c.args.piece.now c.args.path.now h is (sym c.is_idle.ensures ∙ c.if-is_idle.false) (sym c.climbs.ensures ∙ c.if-not-climbs.false) (c.is_empty.ensures.0 c.if-is_empty.true)

pub returns : goal.returns
returns c = λ before h is. piece_climbs before c.args.piece.now c.args.path.now c.drop_last.new.path h is (sym c.is_idle.ensures ∙ c.if-is_idle.false) (sym c.climbs.ensures ∙ c.if-not-climbs.false) (iff_false c.is_empty.ensures c.if-is_empty.false) c.drop_last.ensures
