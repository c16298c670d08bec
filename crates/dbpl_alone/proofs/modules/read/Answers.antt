-- Each exit has its cause.
use Rattle.std.proofs.Common.{sym, ◌∙◌}
use Rattle.std.proofs.lemmas.Result.{err_from_is_err_and}
use Rattle.dbpl_alone.proofs.UnreadLaw.{unread_no_module, unspelt_unread}
use Rattle.dbpl_alone.proofs.ModuleLaw.{one_module, unbuilt_module}
use Rattle.dbpl_alone.proofs.modules.read.Goals as goal

pub returns-in_err-unit-clause-no_module : goal.returns-in_err-unit-clause-no_module
returns-in_err-unit-clause-no_module c =
    let p = err_from_is_err_and c.from_residual.result c.from_residual.ensures.1 in
    let error = c.in_err-unit.field-0.0 in
    rw (p.1, p.2) (λ some. unread_no_module c.args.text.now error (unspelt_unread c.args.text.now error c.in_err-unit.ensures.refused) some)

pub returns-in_err-program-clause-no_module : goal.returns-in_err-program-clause-no_module
returns-in_err-program-clause-no_module c =
    let p = err_from_is_err_and c.from_residual-in_err-program.result c.from_residual-in_err-program.ensures.1 in
    rw (p.1) (λ some. absurd (some p.2))

pub returns-in-Some-clause-only : goal.returns-in-Some-clause-only
returns-in-Some-clause-only c = λ other m.
    one_module c.args.text.now other c.in-Some.program m
    (record { unit = c.in_ok-unit.unit; spelt = c.in_ok-unit.ensures.found; small = sym c.in_ok-program.ensures ∙ c.in-Some.is })

pub returns-clause-no_module : goal.returns-clause-no_module
returns-clause-no_module c = λ some program m.
    unbuilt_module c.args.text.now
    (record { unit = c.in_ok-unit.unit; spelt = c.in_ok-unit.ensures.found; other = sym c.in_ok-program.ensures ∙ c.in-None.is }) program m
