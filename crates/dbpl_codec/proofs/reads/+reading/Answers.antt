use Rattle.std.proofs.Common.{[], map, ℕ, List, sym, ap, ◌∙◌}
use Rattle.std.proofs.lemmas.Result.{err_from_is_err_and}
use Rattle.dbpl_value.specs.Types.{range_of}
use Rattle.dbpl_value.specs.declared.db_type.DbType.{DbType}
use Rattle.dbpl_value.specs.declared.db_type.DbType.TheVariants as types
use Rattle.dbpl_value.specs.declared.value.Value.{Value}
use Rattle.dbpl_codec.specs.Reading.{checked, in_turn, number_at, reads, repeat, risen, word_at}
use Rattle.dbpl_codec.proofs.ReadingSteps.{array, compound, fails, gives-same, in_turn-done, in_turn-step, passes, reads-Arr, reads-Rec, reads-Rel, reads-Sub, reads-other, records, repeat-done, repeat-step}
use Rattle.dbpl_codec.proofs.reads.+reading.Goals as goal

pub read_at-returns-in_err-v-in-Sub : goal.read_at-returns-in_err-v-in-Sub
read_at-returns-in_err-v-in-Sub t c =
    let p = err_from_is_err_and c.from_residual.result c.from_residual.ensures.1 in
    rw (p.1, p.2) (λ ne. fails (reads c.args.t.now c.args.bytes.now) (reads c.get.result.now c.args.bytes.now) (checked (range_of c.args.t.now)) (rw (c.in-Sub.is, c.get.ensures) (reads-Sub c.in-Sub.host c.in-Sub.field-1 c.in-Sub.field-2 c.args.bytes.now)) (c.in_err-v-in-Sub.ensures ne))

pub read_at-returns-in_ok-v-in-Sub : goal.read_at-returns-in_ok-v-in-Sub
read_at-returns-in_ok-v-in-Sub t c =
    gives-same (λ x. (x.0, x.1.now)) c.in_range.result (checked (range_of c.args.t.now) (c.in_ok-v-in-Sub.v, c.in_ok-v-in-Sub.rest.now)) (reads c.args.t.now c.args.bytes.now)
    (passes (reads c.args.t.now c.args.bytes.now) (reads c.get.result.now c.args.bytes.now) (checked (range_of c.args.t.now)) _ (rw (c.in-Sub.is, c.get.ensures) (reads-Sub c.in-Sub.host c.in-Sub.field-1 c.in-Sub.field-2 c.args.bytes.now)) c.in_ok-v-in-Sub.ensures) c.in_range.ensures

pub read_at-returns-in_err-parts-in-Arr : goal.read_at-returns-in_err-parts-in-Arr
read_at-returns-in_err-parts-in-Arr t c =
    let p = err_from_is_err_and c.from_residual-in_err-parts-in-Arr.result c.from_residual-in_err-parts-in-Arr.ensures.1 in
    rw (p.1, p.2) (λ ne. fails (reads c.args.t.now c.args.bytes.now) (repeat (reads c.get-in-Arr-2.result.now) c.in-Some.count [] c.args.bytes.now) array (rw (c.in-Arr.is, c.get-in-Arr-2.ensures, c.in-Some.ensures.some, c.get-in-Arr.ensures) (reads-Arr c.in-Arr.index c.in-Arr.element c.args.bytes.now)) (c.in_err-parts-in-Arr.ensures ne))

pub read_at-returns-in_ok-parts-in-Arr : goal.read_at-returns-in_ok-parts-in-Arr
read_at-returns-in_ok-parts-in-Arr t c =
    passes (reads c.args.t.now c.args.bytes.now) (repeat (reads c.get-in-Arr-2.result.now) c.in-Some.count [] c.args.bytes.now) array _ (rw (c.in-Arr.is, c.get-in-Arr-2.ensures, c.in-Some.ensures.some, c.get-in-Arr.ensures) (reads-Arr c.in-Arr.index c.in-Arr.element c.args.bytes.now)) c.in_ok-parts-in-Arr.ensures

pub read_at-returns-in_err-parts-in-Rec : goal.read_at-returns-in_err-parts-in-Rec
read_at-returns-in_err-parts-in-Rec t c =
    let p = err_from_is_err_and c.from_residual-in_err-parts-in-Rec.result c.from_residual-in_err-parts-in-Rec.ensures.1 in
    rw (p.1, p.2) (λ ne. fails (reads c.args.t.now c.args.bytes.now) (in_turn (map (λ field. reads field.kind) c.as_slice.result.now) [] c.args.bytes.now) compound (rw (c.in-Rec.is, c.as_slice.ensures) (reads-Rec c.in-Rec.fields c.args.bytes.now)) (c.in_err-parts-in-Rec.ensures ne))

pub read_at-returns-in_ok-parts-in-Rec : goal.read_at-returns-in_ok-parts-in-Rec
read_at-returns-in_ok-parts-in-Rec t c =
    passes (reads c.args.t.now c.args.bytes.now) (in_turn (map (λ field. reads field.kind) c.as_slice.result.now) [] c.args.bytes.now) compound _ (rw (c.in-Rec.is, c.as_slice.ensures) (reads-Rec c.in-Rec.fields c.args.bytes.now)) c.in_ok-parts-in-Rec.ensures

pub read_at-returns-in_err-count-in-Rel : goal.read_at-returns-in_err-count-in-Rel
read_at-returns-in_err-count-in-Rel t c =
    let p = err_from_is_err_and c.from_residual-in_err-count-in-Rel.result c.from_residual-in_err-count-in-Rel.ensures.1 in
    rw (p.1, p.2) (λ ne. fails (reads c.args.t.now c.args.bytes.now) (word_at c.args.bytes.now) (records c.in-Rel.record c.in-Rel.field-0) (rw (c.in-Rel.is) (reads-Rel c.in-Rel.field-0 c.in-Rel.record c.args.bytes.now)) (c.in_err-count-in-Rel.ensures ne))

pub read_at-returns-in_err-records-in-Rel : goal.read_at-returns-in_err-records-in-Rel
read_at-returns-in_err-records-in-Rel t c =
    let p = err_from_is_err_and c.from_residual-in_err-records-in-Rel.result c.from_residual-in_err-records-in-Rel.ensures.1 in
    rw (p.1, p.2) (λ ne. fails (reads c.args.t.now c.args.bytes.now) (repeat (reads c.get-in-Rel.result.now) c.from.result [] c.in_ok-count-in-Rel.rest.now) (risen (types.Rel c.in-Rel.field-0 c.in-Rel.record)) (rw (c.get-in-Rel.ensures, c.from.ensures) (passes (reads c.args.t.now c.args.bytes.now) (word_at c.args.bytes.now) (records c.in-Rel.record c.in-Rel.field-0) _ (rw (c.in-Rel.is) (reads-Rel c.in-Rel.field-0 c.in-Rel.record c.args.bytes.now)) c.in_ok-count-in-Rel.ensures)) (c.in_err-records-in-Rel.ensures ne))

pub read_at-returns-in_ok-records-in-Rel : goal.read_at-returns-in_ok-records-in-Rel
read_at-returns-in_ok-records-in-Rel t c =
    let x : List Value × List ℕ = (c.in_ok-records-in-Rel.records, c.in_ok-records-in-Rel.rest.now) in
    gives-same (λ y. (y.0, y.1.now)) c.relation.result (risen c.args.t.now x) (reads c.args.t.now c.args.bytes.now)
    (passes (reads c.args.t.now c.args.bytes.now) (repeat (reads c.get-in-Rel.result.now) c.from.result [] c.in_ok-count-in-Rel.rest.now) (risen (types.Rel c.in-Rel.field-0 c.in-Rel.record)) x (rw (c.get-in-Rel.ensures, c.from.ensures) (passes (reads c.args.t.now c.args.bytes.now) (word_at c.args.bytes.now) (records c.in-Rel.record c.in-Rel.field-0) _ (rw (c.in-Rel.is) (reads-Rel c.in-Rel.field-0 c.in-Rel.record c.args.bytes.now)) c.in_ok-count-in-Rel.ensures)) c.in_ok-records-in-Rel.ensures ∙ ap (λ (kind : DbType). risen kind x) (sym c.in-Rel.is))
    c.relation.ensures

pub read_at-returns-in_default : goal.read_at-returns-in_default
read_at-returns-in_default t c =
    gives-same (λ x. (x.0, x.1.now)) c.number.result (number_at c.args.t.now c.args.bytes.now) (reads c.args.t.now c.args.bytes.now)
    (reads-other c.args.t.now c.args.bytes.now c.in_default.not-Sub c.in_default.not-Arr c.in_default.not-Rec c.in_default.not-Rel)
    c.number.ensures

pub read_all-returns-in_err-part : goal.read_all-returns-in_err-part
read_all-returns-in_err-part t c =
    let p = err_from_is_err_and c.from_residual.result c.from_residual.ensures.1 in
    rw (p.1, p.2) (λ ne. sym c.loop-at.invariant ∙ fails _ (reads c.args.t.now c.loop-at.rest.now) _ (repeat-step (reads c.args.t.now) c.args.count c.loop-at._at c.loop-at.parts c.loop-at.rest.now c.loop-at-test.true) (c.in_err-part.ensures ne))

pub read_all-loop-at-preserved : goal.read_all-loop-at-preserved
read_all-loop-at-preserved t c =
    rw c.in_ok-push.ensures.ok
    (sym (passes _ (reads c.args.t.now c.loop-at.rest.now) _ (c.in_ok-part.part, c.in_ok-part.after.now) (repeat-step (reads c.args.t.now) c.args.count c.loop-at._at c.loop-at.parts c.loop-at.rest.now c.loop-at-test.true) c.in_ok-part.ensures) ∙ c.loop-at.invariant)

pub read_all-returns : goal.read_all-returns
read_all-returns t c =
    sym c.loop-at.invariant
    ∙ repeat-done (reads c.args.t.now) c.args.count c.loop-at._at c.loop-at.parts c.loop-at.rest.now c.loop-at-test.false

pub read_fields-returns-in_err-part : goal.read_fields-returns-in_err-part
read_fields-returns-in_err-part t c =
    let p = err_from_is_err_and c.from_residual.result c.from_residual.ensures.1 in
    rw (p.1, p.2) (λ ne. sym c.loop-field.invariant ∙ fails _ (reads c.field-item.result.kind c.loop-field.rest.now) _ (in_turn-step (λ field. reads field.kind) c.args.fields.now c.loop-field.field-index c.field-item.result c.loop-field.parts c.loop-field.rest.now c.loop-field-test.true c.field-item.is) (c.in_err-part.ensures ne))

pub read_fields-loop-field-preserved : goal.read_fields-loop-field-preserved
read_fields-loop-field-preserved t c =
    rw c.in_ok-push.ensures.ok
    (sym (passes _ (reads c.field-item.result.kind c.loop-field.rest.now) _ (c.in_ok-part.part, c.in_ok-part.after.now) (in_turn-step (λ field. reads field.kind) c.args.fields.now c.loop-field.field-index c.field-item.result c.loop-field.parts c.loop-field.rest.now c.loop-field-test.true c.field-item.is) c.in_ok-part.ensures) ∙ c.loop-field.invariant)

pub read_fields-returns : goal.read_fields-returns
read_fields-returns t c =
    sym c.loop-field.invariant
    ∙ in_turn-done (λ field. reads field.kind) c.args.fields.now c.loop-field.field-index c.loop-field.parts c.loop-field.rest.now c.loop-field-test.false
