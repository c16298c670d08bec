-- Each file is fetched behind those before it, and the first that can't be read stops all.
use Rattle.std.proofs.Common.{◌∙◌, ◌≤◌, ◌+◌, ℕ, Err, List, [], ◌∷◌, arith, ap, get_or, length, length-append, subst, sym}
use Rattle.std.proofs.lemmas.List.{map-append}
use Rattle.std.proofs.lemmas.List.Elements.{All-push}
use Rattle.std.proofs.lemmas.Result.{err_from_is_err_and}
use Rattle.std.specs.Borrow.{Bor}
use Rattle.dbpl_base.specs.declared.limits.TheConstants.{SOURCE_BYTES}
use Rattle.dbpl_base.specs.declared.status.Status.{Status}
use Rattle.dbpl_promise.specs.Stages.{Stops}
use Rattle.dbpl_sources.proofs.Fetched.{all_passed, fetch_handed, fetch_since, fetched_well, one_more, stops_here}
use Rattle.dbpl_sources.specs.Fetching.{fetched}
use Rattle.dbpl_sources.proofs.fetching.sources.Goals as goal

-- the name of a file, and the one that stands where there is none
abbrev named : Bor (List ℕ) → List ℕ
named file = file.now

abbrev none : Bor (List ℕ)
none = record { ref_ptr = (0, 0); now = [] }

pub returns-in_err-text-clause-err : goal.returns-in_err-text-clause-err
returns-in_err-text-clause-err g c = λ work over.
    let p = err_from_is_err_and c.from_residual.result c.from_residual.ensures.1 in
    let before = c.loop-file.invariant.faults in
    let here = c.in_err-text.ensures.err work (record {
      files_are = over.files_are ∙ sym c.loop-file.invariant.files;
      begins = omega (arith, over.begins, before);
      ends = over.ends;
    }) in
    rw p.1 (stops_here named c.args.files.now c.loop-file.file-index none c.loop-file-test.true work _
    (c.loop-file.invariant.found work over.files_are) _
    (subst (λ (answer : Status). Stops (fetched (get_or c.args.files.now c.loop-file.file-index none).now) work answer) (sym p.2) here))

pub returns-in_err-text-clause-fine : goal.returns-in_err-text-clause-fine
returns-in_err-text-clause-fine g c =
    let p = err_from_is_err_and c.from_residual.result c.from_residual.ensures.1 in
    fetch_handed c.from_residual.result c.source.result _ (p.1 ∙ ap (λ (a : Status). Err a) p.2) c.in_err-text.was
    (fetch_since c.source.result _ _ _ c.loop-file.invariant.fine c.source.ensures.fine)

pub loop-file-preserved : goal.loop-file-preserved
loop-file-preserved g c = record {
  found = λ work files.
      let here = c.in_ok-text.ensures.found (record work {
        shelf_faults_before = g.S.Shelf.shelf_faults c.loop-file.shelf;
        shelf_faults_after = g.S.Shelf.shelf_faults c.source.new.shelf;
      }) (record { files_are = files ∙ sym c.loop-file.invariant.files; begins = omega arith; ends = omega arith }) in
      let more = one_more named c.args.files.now c.loop-file.file-index none c.loop-file-test.true work _
      (c.loop-file.invariant.found work files) c.in_ok-text.text.items here in
      rw (c.in-Ok.ensures.items, map-append (λ text. text.items) c.loop-file.texts.items (c.in_ok-text.text ∷ [])) more;
  count =
      let one = length-append c.loop-file.texts.items (c.in_ok-text.text ∷ []) in
      rw (c.in-Ok.ensures.items) (one ∙ ap (λ n. n + 1) c.loop-file.invariant.count);
  within =
      rw c.in-Ok.ensures.items
      (All-push (λ text. length text.items ≤ SOURCE_BYTES) c.loop-file.texts.items c.in_ok-text.text c.loop-file.invariant.within
      c.in_ok-text.ensures.within);
  files = c.in_ok-text.ensures.files ∙ c.loop-file.invariant.files;
  fine = fetched_well c.source.result _ c.in_ok-text.was c.source.ensures.fine ∙ c.loop-file.invariant.fine;
  faults =
      let before = c.loop-file.invariant.faults in
      let behind = c.in_ok-text.ensures.faults in omega (arith, before, behind);
}

pub returns-clause-found : goal.returns-clause-found
returns-clause-found g c = λ work over.
    all_passed named c.args.files.now c.loop-file.file-index work _ c.loop-file-test.false
    (c.loop-file.invariant.found work over.files_are)

pub returns-clause-count : goal.returns-clause-count
returns-clause-count g c =
    let counted = c.loop-file.invariant.count in
    let end = c.loop-file-test.false in
    let within = c.loop-file.auto.file-index-end in omega (arith, counted, end, within)
