use Rattle.dbpl_value.proofs.SameTypes.{same_type-is}
use Rattle.dbpl_value.proofs.equality.same_type.Goals as goal

pub returns-clause-computed : goal.returns-clause-computed
returns-clause-computed c = same_type-is c.args.a.now c.args.b.now c.are_equal_types.result c.are_equal_types.ensures
