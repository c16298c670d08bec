-- By the laws of a level.
use Rattle.dbpl_meaning.proofs.Levels.{does-out, does-roll, value_of-out, value_of-roll}
use Rattle.dbpl_meaning.proofs.laws.meaning_by_rows.Goals as goal

pub returns-clause-expression : goal.returns-clause-expression
returns-clause-expression c = value_of-out

pub returns-clause-expression_made : goal.returns-clause-expression_made
returns-clause-expression_made c = value_of-roll

pub returns-clause-statement : goal.returns-clause-statement
returns-clause-statement c = does-out

pub returns-clause-statement_made : goal.returns-clause-statement_made
returns-clause-statement_made c = does-roll
