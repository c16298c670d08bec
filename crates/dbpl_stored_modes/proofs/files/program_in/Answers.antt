-- The files were fetched in their order, and the two texts are those that were read.
use Rattle.std.proofs.Common.{◌∙◌, Err, [], ◌∷◌, ap, inr, subst, sym}
use Rattle.std.proofs.lemmas.Result.{err_from_is_err_and}
use Rattle.dbpl_base.specs.declared.status.Status.{Status}
use Rattle.dbpl_promise.specs.Stages.{Stops}
use Rattle.dbpl_sources.proofs.Fetched.{fetch_handed, fetched_well}
use Rattle.dbpl_sources.specs.Fetching.{all_fetched}
use Rattle.dbpl_stored_modes.proofs.Stages.{files_stop, texts_found, texts_refused}
use Rattle.dbpl_stored_modes.proofs.files.program_in.Goals as goal

pub returns-in_err-texts-clause-err : goal.returns-in_err-texts-clause-err
returns-in_err-texts-clause-err g c = λ work over.
    let p = err_from_is_err_and c.from_residual.result c.from_residual.ensures.1 in
    rw p.1 (files_stop c.args.schema.now c.args.program.now work _
    (subst (λ (answer : Status). Stops (all_fetched (c.args.schema.now ∷ c.args.program.now ∷ [])) work answer) (sym p.2)
    (c.in_err-texts.ensures.err work over)))

pub returns-clause-found : goal.returns-clause-found
returns-clause-found g c = λ work over.
    texts_found (λ text. text.items) c.in_ok-texts.texts.items c.index.result.now c.index-2.result.now c.args.schema.now
    c.args.program.now c.as_slice.result.now c.as_slice-2.result.now work c.in_ok-texts.ensures.count c.index.ensures
    c.index-2.ensures c.as_slice.ensures.value c.as_slice-2.ensures.value (c.in_ok-texts.ensures.found work over)
    c.program_of.result c.program_of.ensures.found

pub returns-clause-err : goal.returns-clause-err
returns-clause-err g c = λ work over.
    texts_refused (λ text. text.items) c.in_ok-texts.texts.items c.index.result.now c.index-2.result.now c.args.schema.now
    c.args.program.now c.as_slice.result.now c.as_slice-2.result.now work c.in_ok-texts.ensures.count c.index.ensures
    c.index-2.ensures c.as_slice.ensures.value c.as_slice-2.ensures.value (c.in_ok-texts.ensures.found work over)
    c.program_of.result c.program_of.ensures.err

pub returns-in_err-texts-clause-fine : goal.returns-in_err-texts-clause-fine
returns-in_err-texts-clause-fine g c =
    let p = err_from_is_err_and c.from_residual.result c.from_residual.ensures.1 in
    fetch_handed c.from_residual.result c.sources.result _ (p.1 ∙ ap (λ (a : Status). Err a) p.2) c.in_err-texts.was c.sources.ensures.fine

pub returns-clause-fine : goal.returns-clause-fine
returns-clause-fine g c = inr (fetched_well c.sources.result _ c.in_ok-texts.was c.sources.ensures.fine)
