-- Statements inside others are read at a smaller depth.
use Rattle.dbpl_parse_statement.proofs.phrases.+statements.Given as goal

abbrev pub decreases-statements : goal.decreases-statements
decreases-statements l = l.depth
