-- Where a piece fails, the pieces before it and a front of it are noted: a front of all.
use Rattle.std.proofs.Common.{ℕ, List, ◌+◌, [], drop, get_or, take}
use Rattle.std.proofs.lemmas.Result.{err_from_is_err_and}
use Rattle.std.specs.Borrow.{Bor}
use Rattle.std.specs.List.{flat_map}
use Rattle.dbpl_words.proofs.Appending.{flat_map-at_index, front}
use Rattle.dbpl_world.specs.History.{Noted}
use Rattle.dbpl_words.proofs.noting.note_pieces.Goals as goal

pub returns-in_err-note_all-clause-err : goal.returns-in_err-note_all-clause-err
returns-in_err-note_all-clause-err g c = λ told.
    let pieces = c.args.pieces.now in
    let i = c.loop-piece.piece-index in
    let bytes : Bor (List ℕ) → List ℕ = λ piece. piece.now in
    let none : Bor (List ℕ) = record { ref_ptr = (0, 0); now = [] } in
    let p = err_from_is_err_and c.from_residual.result c.from_residual.ensures.1 in
    rw p.1 (front Noted (flat_map bytes pieces) (flat_map bytes (take i pieces)) (get_or pieces i none).now (flat_map bytes (drop (i + 1) pieces)) _ _ _
    (flat_map-at_index bytes pieces i none c.loop-piece-test.true) (c.loop-piece.invariant.told told) (c.in_err-note_all.ensures.err told))
