use Rattle.std.specs.Prelude.{IsTrue}
use Rattle.dbpl_value.specs.Values.{is_of}
use Rattle.dbpl_relation.specs.Examples.{subs}
use Rattle.dbpl_relation.proofs.tests.subs_of.Given as goal

abbrev pub invariant-loop-position : goal.invariant-loop-position
invariant-loop-position l = IsTrue (is_of subs l.relation)
