-- The nine pieces are what happened, its number and the place.
use Rattle.std.proofs.Common.{◌≡◌, ◌∙◌}
use Rattle.std.specs.Prelude.{decimal}
use Rattle.dbpl_words.proofs.Reports.{pieces_of, placed, placed-pieces}
use Rattle.dbpl_words.proofs.report.note_place.Given as given
use Rattle.dbpl_words.proofs.report.note_place.Goals as goal

pieces : (g : given.Over) (c : goal.After-columns-2-1 g) →
    placed c.args.what.now c.args.number c.args.place
    ≡ pieces_of c.args.what.now c.as_bytes.result.now c.as_bytes-2.result.now c.as_bytes-3.result.now c.as_bytes-4.result.now
pieces g c =
    let number : c.as_bytes.result.now ≡ decimal c.args.number = c.as_bytes.ensures.value ∙ c.format.ensures.text in
    let unit : c.as_bytes-2.result.now ≡ decimal c.args.place.unit = c.as_bytes-2.ensures.value ∙ c.format-2.ensures.text in
    let line : c.as_bytes-3.result.now ≡ decimal c.args.place.line = c.as_bytes-3.ensures.value ∙ c.format-3.ensures.text in
    let column : c.as_bytes-4.result.now ≡ decimal c.args.place.col = c.as_bytes-4.ensures.value ∙ c.format-4.ensures.text in
    rw (number, unit, line, column) (placed-pieces c.args.what.now c.args.number c.args.place)

pub returns-clause-ok : goal.returns-clause-ok
returns-clause-ok g c = λ told. rw (pieces g c) (c.note_pieces.ensures.ok told)

pub returns-clause-err : goal.returns-clause-err
returns-clause-err g c = λ told. rw (pieces g c) (c.note_pieces.ensures.err told)
