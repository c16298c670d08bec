-- Where a statement fails, what the statements before it print and a front of what it prints is said: a front of all.
use Rattle.std.proofs.Common.{◌+◌, drop, take}
use Rattle.std.proofs.lemmas.Result.{err_from_is_err_and}
use Rattle.std.specs.List.{flat_map}
use Rattle.dbpl_words.proofs.Appending.{flat_map-at_item, front}
use Rattle.dbpl_alone.proofs.Printed.{printed_err, printed_ok}
use Rattle.dbpl_alone.specs.Meaning.{printed_by}
use Rattle.dbpl_world.specs.History.{Said}
use Rattle.dbpl_alone.proofs.printing.print_program.Goals as goal

pub returns-in_err-print_statement-clause-err : goal.returns-in_err-print_statement-clause-err
returns-in_err-print_statement-clause-err g c = λ told.
    let statements = c.as_slice-statement-items.result.now in
    let i = c.loop-statement.statement-index in
    let p = err_from_is_err_and c.from_residual.result c.from_residual.ensures.1 in
    rw (p.1, ← c.as_slice-statement-items.ensures) (front Said (flat_map printed_by statements) (flat_map printed_by (take i statements)) (printed_by c.statement-item.result)
    (flat_map printed_by (drop (i + 1) statements)) _ _ _
    (flat_map-at_item printed_by statements i c.statement-item.result c.statement-item.is c.loop-statement-test.true)
    (c.loop-statement.invariant.told told) (c.in_err-print_statement.ensures.err told))

pub returns-clause-ok : goal.returns-clause-ok
returns-clause-ok g c = λ told.
    printed_ok c.as_slice-statement-items.result.now c.args.program.now.statements c.loop-statement.statement-index _ _ _
    c.as_slice-statement-items.ensures c.loop-statement-test.false (c.loop-statement.invariant.told told)
    (c.flush.ensures.unchanged told) c.flush.result

pub returns-clause-err : goal.returns-clause-err
returns-clause-err g c = λ told.
    printed_err c.as_slice-statement-items.result.now c.args.program.now.statements c.loop-statement.statement-index _ _ _
    c.as_slice-statement-items.ensures c.loop-statement-test.false (c.loop-statement.invariant.told told)
    (c.flush.ensures.unchanged told) c.flush.result
