-- By the laws of a level.
use Rattle.dbpl_rules_expr.proofs.Levels.{aggregate-out, element-out, factor-out, factor-roll}
use Rattle.dbpl_rules_expr.proofs.laws.judged_by_levels.Goals as goal

pub returns-clause-factor : goal.returns-clause-factor
returns-clause-factor c = factor-out

pub returns-clause-factor_made : goal.returns-clause-factor_made
returns-clause-factor_made c = factor-roll

pub returns-clause-element : goal.returns-clause-element
returns-clause-element c = element-out

pub returns-clause-aggregate : goal.returns-clause-aggregate
returns-clause-aggregate c = aggregate-out
