-- A depth is zero, or one more than that of the statements inside.
use Rattle.std.proofs.Common.{rules, arith}
use Rattle.dbpl_parse_statement.proofs.Depth.{deeper, shallow}
use Rattle.dbpl_parse_statement.proofs.phrases.+statements.Goals as goal

pub returns-then-depth-eq0 : goal.returns-then-depth-eq0
returns-then-depth-eq0 t c = rw (shallow c.args.depth (omega arith)) (search rules)

pub returns : goal.returns
returns t c = rw (deeper c.args.depth (omega arith)) c.whole_statements.ensures
