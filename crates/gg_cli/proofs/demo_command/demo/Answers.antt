use Rattle.gg_cli.proofs.DemoMakesTheAnswer.{demo_printed, demo_stops, demo_unprinted, own_cause, own_unfiled, own_unkept}
use Rattle.gg_cli.proofs.demo_command.demo.Goals as goal

pub returns-in-Err-clause-ends : goal.returns-in-Err-clause-ends
returns-in-Err-clause-ends g c kept files = rw c.own_fault.ensures.is_fault (demo_stops _ kept files _ c.in-Err.ensures.shows _)

pub returns-in-Err-clause-cause : goal.returns-in-Err-clause-cause
returns-in-Err-clause-cause g c retries kept files = rw c.own_fault.ensures.is_fault (own_cause _ _ c.in-Err.ensures.shows retries _)

pub returns-in-Err-clause-no_keeper : goal.returns-in-Err-clause-no_keeper
returns-in-Err-clause-no_keeper g c = rw c.own_fault.ensures.is_fault (own_unkept _)

pub returns-in-Err-clause-no_tree : goal.returns-in-Err-clause-no_tree
returns-in-Err-clause-no_tree g c = rw c.own_fault.ensures.is_fault (own_unfiled _)

pub returns-in-Ok-print_demonstration-clause-ends : goal.returns-in-Ok-print_demonstration-clause-ends
returns-in-Ok-print_demonstration-clause-ends g c kept files = demo_printed _ kept files _ c.in-Ok.ensures.shows _ _ _ _ _ c.in-Ok-print_demonstration.ensures

pub returns-in-Err-print_demonstration-clause-ends : goal.returns-in-Err-print_demonstration-clause-ends
returns-in-Err-print_demonstration-clause-ends g c kept files =
    rw c.output_fault.ensures (demo_unprinted _ kept files _ c.in-Ok.ensures.shows _ _ _ _ (Unit {0}) _ c.in-Err-print_demonstration.ensures)
