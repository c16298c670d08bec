-- The four pieces are the report.
use Rattle.std.proofs.Common.{◌≡◌, ◌∙◌}
use Rattle.std.specs.Prelude.{decimal}
use Rattle.dbpl_words.proofs.Reports.{report-malformed}
use Rattle.dbpl_words.proofs.report.note_malformed.Goals as goal

pub returns-clause-ok : goal.returns-clause-ok
returns-clause-ok g c = λ told.
    let number : c.as_bytes-2.result.now ≡ decimal c.args.at = c.as_bytes-2.ensures.value ∙ c.format.ensures.text in
    rw (report-malformed c.args.file.now c.args.at, ← number, ← c.as_bytes.ensures) (c.note_pieces.ensures.ok told)

pub returns-clause-err : goal.returns-clause-err
returns-clause-err g c = λ told.
    let number : c.as_bytes-2.result.now ≡ decimal c.args.at = c.as_bytes-2.ensures.value ∙ c.format.ensures.text in
    rw (report-malformed c.args.file.now c.args.at, ← number, ← c.as_bytes.ensures) (c.note_pieces.ensures.err told)
