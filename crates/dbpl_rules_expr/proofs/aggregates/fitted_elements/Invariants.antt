use Rattle.std.proofs.Common.{◌≡◌, map}
use Rattle.dbpl_rules_expr.proofs.aggregates.fitted_elements.Given as goal
use Rattle.dbpl_rules_operators.specs.Fitting.{fitted}

abbrev pub invariant-loop-part : goal.invariant-loop-part
invariant-loop-part l = l.trees ≡ map (fitted l.t) l.yielded
