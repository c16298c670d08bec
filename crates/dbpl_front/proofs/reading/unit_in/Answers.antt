-- Each exit has its cause.
use Rattle.std.proofs.Common.{List, refl, subst, sym}
use Rattle.std.proofs.lemmas.Result.{err_from_is_err_and}
use Rattle.dbpl_base.specs.declared.token.Token.{Token}
use Rattle.dbpl_front.proofs.CauseLaw.{parse_unspelt, scan_unspelt, unspelt_no_unit}
use Rattle.dbpl_front.specs.Errors.{of_scan}
use Rattle.dbpl_scan.specs.Comments.{Scans}
use Rattle.dbpl_front.proofs.reading.unit_in.Goals as goal

pub returns-in_err-tokens-clause-no_unit : goal.returns-in_err-tokens-clause-no_unit
returns-in_err-tokens-clause-no_unit c =
    let p = err_from_is_err_and c.from_residual.result c.from_residual.ensures.1 in
    let error = c.in_err-tokens.field-0.0 in
    let cause = scan_unspelt c.args.number c.args.text.now _ error refl c.in_err-tokens.ensures.bad c.in_err-tokens.ensures.refused in
    rw (p.1, p.2) (λ some. unspelt_no_unit c.args.number c.args.text.now (of_scan error) cause some)

pub returns-in_err-parse-clause-refused : goal.returns-in_err-parse-clause-refused
returns-in_err-parse-clause-refused c =
    let p = err_from_is_err_and c.from_residual-in_err-parse.result c.from_residual-in_err-parse.ensures.1 in
    let text = c.args.text.now in
    let tokens = c.as_slice.result.now in
    let scanned = subst (λ (ts : List Token). Scans c.args.number text ts) (sym c.as_slice.ensures) c.in_ok-tokens.ensures.found in
    rw (p.1, p.2) (parse_unspelt c.args.number text tokens c.in_err-parse.field-0.0 scanned c.in_err-parse.ensures.reads c.in_err-parse.ensures.refused c.in_err-parse.ensures.placed)
