use Rattle.std.proofs.Common.{◌-◌, sym, ◌∙◌, arith}
use Rattle.std.proofs.lemmas.Result.{err_from_is_err_and}
use Rattle.dbpl_codec.specs.Reading.{byte_at}
use Rattle.dbpl_codec.specs.TypeReading.{field_at, kind_at, type_at}
use Rattle.dbpl_codec.proofs.ReadingSteps.{fails, gives-same, passes, repeat-done, repeat-step}
use Rattle.dbpl_codec.proofs.TypeReadLaws.{type_at-none, type_at-step}
use Rattle.dbpl_codec.proofs.type_reads.+descriptors.Goals as goal

pub fields_at-returns-in_err-field : goal.fields_at-returns-in_err-field
fields_at-returns-in_err-field t c =
    let read = field_at (type_at c.args.depth) in
    let p = err_from_is_err_and c.from_residual.result c.from_residual.ensures.1 in
    rw (p.1, p.2) (λ ne. sym c.loop-at.invariant ∙ fails _ (read c.loop-at.rest.now) _ (repeat-step read c.args.count c.loop-at._at c.loop-at.found c.loop-at.rest.now c.loop-at-test.true) (c.in_err-field.ensures ne))

pub fields_at-loop-at-preserved : goal.fields_at-loop-at-preserved
fields_at-loop-at-preserved t c =
    let read = field_at (type_at c.args.depth) in
    rw c.in_ok-push.ensures.ok
    (sym (passes _ (read c.loop-at.rest.now) _ (c.in_ok-field.field, c.in_ok-field.after.now) (repeat-step read c.args.count c.loop-at._at c.loop-at.found c.loop-at.rest.now c.loop-at-test.true) c.in_ok-field.ensures) ∙ c.loop-at.invariant)

pub fields_at-returns : goal.fields_at-returns
fields_at-returns t c =
    sym c.loop-at.invariant
    ∙ repeat-done (field_at (type_at c.args.depth)) c.args.count c.loop-at._at c.loop-at.found c.loop-at.rest.now c.loop-at-test.false

pub type_at-returns-then-depth-eq0 : goal.type_at-returns-then-depth-eq0
type_at-returns-then-depth-eq0 t c = λ ne. type_at-none c.args.depth c.args.bytes.now c.if-depth-eq0.true

pub type_at-returns-in_err-kind : goal.type_at-returns-in_err-kind
type_at-returns-in_err-kind t c =
    let p = err_from_is_err_and c.from_residual.result c.from_residual.ensures.1 in
    rw (p.1, p.2) (λ ne. fails _ (byte_at c.args.bytes.now) (λ kind. kind_at (type_at (c.args.depth - 1)) kind.0 kind.1)
    (type_at-step c.args.depth c.args.bytes.now (omega (arith, c.if-depth-eq0.false))) (c.in_err-kind.ensures ne))

pub type_at-returns : goal.type_at-returns
type_at-returns t c =
    gives-same (λ x. (x.0, x.1.now)) c.kind_at.result _ (type_at c.args.depth c.args.bytes.now)
    (passes _ (byte_at c.args.bytes.now) (λ kind. kind_at (type_at (c.args.depth - 1)) kind.0 kind.1)
    (c.in_ok-kind.kind, c.in_ok-kind.rest.now) (type_at-step c.args.depth c.args.bytes.now (omega (arith, c.if-depth-eq0.false)))
    c.in_ok-kind.ensures) c.kind_at.ensures
