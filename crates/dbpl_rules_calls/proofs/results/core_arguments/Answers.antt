use Rattle.dbpl_rules_calls.proofs.Listing.{one_more_part}
use Rattle.dbpl_rules_calls.proofs.results.core_arguments.Goals as goal
use Rattle.dbpl_rules_calls.specs.Results.{core_argument}

pub loop-argument-preserved : goal.loop-argument-preserved
loop-argument-preserved c =
    one_more_part core_argument c.loop-argument.yielded c.in-Some.argument c.loop-argument.arguments _ _
    c.loop-argument.invariant c.core_argument.ensures c.in_ok-arguments.ensures
