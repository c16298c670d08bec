-- A depth is zero, or one more than that of the phrases inside.
use Rattle.std.proofs.Common.{rules, arith}
use Rattle.dbpl_parse_expr.proofs.Depth.{deeper, shallow}
use Rattle.dbpl_parse_expr.proofs.phrases.+phrases.Goals as goal

pub expr-returns-then-depth-eq0 : goal.expr-returns-then-depth-eq0
expr-returns-then-depth-eq0 t c = rw (shallow c.args.depth (omega arith)) (search rules)

pub expr-returns : goal.expr-returns
expr-returns t c = rw (deeper c.args.depth (omega arith)) c.whole_expr.ensures

pub range-returns-then-depth-eq0 : goal.range-returns-then-depth-eq0
range-returns-then-depth-eq0 t c = rw (shallow c.args.depth (omega arith)) (search rules)

pub range-returns : goal.range-returns
range-returns t c = rw (deeper c.args.depth (omega arith)) c.whole_range.ensures

pub negated-returns-then-depth-eq0 : goal.negated-returns-then-depth-eq0
negated-returns-then-depth-eq0 t c = rw (shallow c.args.depth (omega arith)) (search rules)

pub negated-returns : goal.negated-returns
negated-returns t c = rw (deeper c.args.depth (omega arith)) c.whole_negated.ensures
