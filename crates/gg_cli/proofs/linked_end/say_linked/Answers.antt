use Rattle.gg_cli.proofs.linked_end.say_linked.Goals as goal

pub returns-in-Differs : goal.returns-in-Differs
returns-in-Differs g c = rw c.in-Differs.is c.say_differs.ensures
