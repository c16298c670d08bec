-- Each exit has its cause.
use Rattle.std.proofs.lemmas.Result.{err_from_is_err_and}
use Rattle.dbpl_stored_form.proofs.TextLaw.{found_behind, refused_behind, second_unread}
use Rattle.dbpl_stored_form.proofs.reading.read_program.Goals as goal

pub returns-in_err-program-clause-refused : goal.returns-in_err-program-clause-refused
returns-in_err-program-clause-refused c =
    let p = err_from_is_err_and c.from_residual.result c.from_residual.ensures.1 in
    rw (p.1, p.2) (λ schema first.
    second_unread schema c.args.text.now c.args.database.now c.in_err-program.field-0.0 first c.in_err-program.ensures.refused)

pub returns-clause-found : goal.returns-clause-found
returns-clause-found c =
    found_behind c.args.database.now c.in_ok-program.program c.args.text.now c.built.result c.in_ok-program.ensures.found
    c.built.ensures.found

pub returns-clause-refused : goal.returns-clause-refused
returns-clause-refused c =
    refused_behind c.args.database.now c.in_ok-program.program c.args.text.now c.built.result c.in_ok-program.ensures.found
    c.built.ensures.refused
