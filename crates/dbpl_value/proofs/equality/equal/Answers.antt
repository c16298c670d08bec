use Rattle.dbpl_value.proofs.EqualityLemmas.{equal-is}
use Rattle.dbpl_value.proofs.equality.equal.Goals as goal

pub returns-clause-computed : goal.returns-clause-computed
returns-clause-computed c = equal-is c.args.a.now c.args.b.now c.are_equal.result c.are_equal.ensures
