-- By the laws of a level.
use Rattle.dbpl_core.proofs.Levels.{phrases_in-out, phrases_in-roll, phrases_of-out, phrases_of-roll}
use Rattle.dbpl_core.proofs.laws.phrases_by_levels.Goals as goal

pub returns-clause-expression : goal.returns-clause-expression
returns-clause-expression c = phrases_of-out

pub returns-clause-expression_made : goal.returns-clause-expression_made
returns-clause-expression_made c = phrases_of-roll

pub returns-clause-statement : goal.returns-clause-statement
returns-clause-statement c = phrases_in-out

pub returns-clause-statement_made : goal.returns-clause-statement_made
returns-clause-statement_made c = phrases_in-roll
