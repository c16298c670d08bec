-- A phrase inside another is read at a smaller depth.
use Rattle.dbpl_parse_expr.proofs.phrases.+phrases.Given as goal

abbrev pub decreases-expr : goal.decreases-expr
decreases-expr l = l.depth

abbrev pub decreases-range : goal.decreases-range
decreases-range l = l.depth

abbrev pub decreases-negated : goal.decreases-negated
decreases-negated l = l.depth
