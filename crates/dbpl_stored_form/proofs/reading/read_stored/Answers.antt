-- Each exit has its cause.
use Rattle.std.proofs.lemmas.Result.{err_from_is_err_and}
use Rattle.dbpl_stored_form.proofs.TextLaw.{first_unread, stored_found, stored_only, stored_refused, stored_refused_only, stored_small, unread_no_program}
use Rattle.dbpl_stored_form.proofs.reading.read_stored.Goals as goal

pub returns-in_err-database-clause-refused : goal.returns-in_err-database-clause-refused
returns-in_err-database-clause-refused c =
    let p = err_from_is_err_and c.from_residual.result c.from_residual.ensures.1 in
    rw (p.1, p.2) (first_unread c.args.schema.now c.args.program.now c.in_err-database.field-0.0 c.in_err-database.ensures.refused)

pub returns-in_err-database-clause-no_program : goal.returns-in_err-database-clause-no_program
returns-in_err-database-clause-no_program c =
    let p = err_from_is_err_and c.from_residual.result c.from_residual.ensures.1 in
    let error = c.in_err-database.field-0.0 in
    let cause = first_unread c.args.schema.now c.args.program.now error c.in_err-database.ensures.refused in
    rw (p.1, p.2) (λ some. unread_no_program c.args.schema.now c.args.program.now error cause some)

pub returns-clause-found : goal.returns-clause-found
returns-clause-found c =
    stored_found c.args.schema.now c.args.program.now c.in_ok-database.database c.read_program.result c.in_ok-database.ensures.found
    c.read_program.ensures.found

pub returns-clause-only : goal.returns-clause-only
returns-clause-only c =
    stored_only c.args.schema.now c.args.program.now c.in_ok-database.database c.read_program.result c.in_ok-database.ensures.found
    c.read_program.ensures.found

pub returns-clause-small : goal.returns-clause-small
returns-clause-small c =
    stored_small c.args.schema.now c.args.program.now c.in_ok-database.database c.read_program.result c.stored_is_small.ensures
    c.in_ok-database.ensures.found c.read_program.ensures.found

pub returns-clause-refused : goal.returns-clause-refused
returns-clause-refused c =
    stored_refused c.args.schema.now c.args.program.now c.in_ok-database.database c.read_program.result
    c.in_ok-database.ensures.found c.read_program.ensures.refused

pub returns-clause-no_program : goal.returns-clause-no_program
returns-clause-no_program c =
    stored_refused_only c.args.schema.now c.args.program.now c.in_ok-database.database c.read_program.result
    c.in_ok-database.ensures.found c.read_program.ensures.refused
