use Rattle.need_eval.proofs.walker.Walker.turn_out.Goals as goal

pub returns-in_default-clause-turns : goal.returns-in_default-clause-turns
returns-in_default-clause-turns g c = λ told. c.end.ensures.turns (g.K.Keeper.store c.args.keeper.now)
