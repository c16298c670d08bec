use Rattle.std.proofs.Common.{◌≡◌}
use Rattle.dbpl_relation.specs.Examples.{subs}
use Rattle.dbpl_relation.proofs.tests.large.large_statements.Given as goal

abbrev pub invariant-loop-number : goal.invariant-loop-number
invariant-loop-number g l = l.t ≡ subs
