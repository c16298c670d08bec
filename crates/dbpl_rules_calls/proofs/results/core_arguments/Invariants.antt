use Rattle.std.proofs.Common.{◌≡◌}
use Rattle.std.specs.List.{filter_map}
use Rattle.dbpl_rules_calls.proofs.results.core_arguments.Given as goal
use Rattle.dbpl_rules_calls.specs.Results.{core_argument}

abbrev pub invariant-loop-argument : goal.invariant-loop-argument
invariant-loop-argument l = l.arguments ≡ filter_map core_argument l.yielded
