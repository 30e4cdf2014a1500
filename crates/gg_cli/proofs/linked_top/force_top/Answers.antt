use Rattle.std.proofs.Common.{ap, Err, ◌∙◌}
use Rattle.gg_cli.proofs.LinksFitTheStatus.{over_comes, over_says, over_untold}
use Rattle.gg_cli.proofs.linked_top.force_top.Goals as goal

pub returns-in-Err-clause-exact : goal.returns-in-Err-clause-exact
returns-in-Err-clause-exact g c keeps tells told = over_comes _ _ _ _ _ _ _ c.say_linked-status.ensures _ _ (rw c.in-Err.is at c.obey_over-end.ensures.exact keeps tells told)

pub returns-in-Err-clause-said : goal.returns-in-Err-clause-said
returns-in-Err-clause-said g c keeps tells told = over_says _ _ _ _ _ _ _ c.say_linked-status.ensures _ _ (rw c.in-Err.is at c.obey_over-end.ensures.exact keeps tells told)

pub returns-in-Err-clause-some : goal.returns-in-Err-clause-some
returns-in-Err-clause-some g c keeps tells =
    let some = c.obey_over-end.ensures.some keeps tells in
    record {
      given = some.given;
      answers = some.answers;
      comes = over_comes _ _ _ _ _ _ _ c.say_linked-status.ensures _ _ (rw c.in-Err.is at some.ends);
      says = over_says _ _ _ _ _ _ _ c.say_linked-status.ensures _ _ (rw c.in-Err.is at some.ends);
    }

pub returns-in-Err-clause-line : goal.returns-in-Err-clause-line
returns-in-Err-clause-line g c = over_untold _ _ _ _ _ _ _ c.say_linked-status.ensures (λ is. c.obey_over-end.ensures.no_input (c.in-Err.is ∙ ap Err is))
