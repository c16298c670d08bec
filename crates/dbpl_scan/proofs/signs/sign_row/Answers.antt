-- What the search in the table finds is the word's row.
use Rattle.std.proofs.Common.{sym, arith}
use Rattle.dbpl_base.specs.Words.{signs}
use Rattle.dbpl_scan.proofs.Rows.{no_position, position_row, row_within}
use Rattle.dbpl_scan.proofs.signs.sign_row.Goals as goal

pub overflow_cast-result : goal.overflow_cast-result
unfolding signs
overflow_cast-result c =
    let within = row_within signs c.args.word.now c.in-Some.row (position_row signs c.args.word.now c.in-Some.row (sym c.in-Some.ensures)) in
    omega (arith, within)

pub returns-in-Some-clause-some : goal.returns-in-Some-clause-some
unfolding signs
returns-in-Some-clause-some c =
    position_row signs c.args.word.now c.in-Some.row (sym c.in-Some.ensures)

pub returns-in-None-clause-none : goal.returns-in-None-clause-none
unfolding signs
returns-in-None-clause-none c =
    λ _. no_position signs c.args.word.now (sym c.in-None.ensures)
