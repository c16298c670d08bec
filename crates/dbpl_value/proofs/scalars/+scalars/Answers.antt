use Rattle.std.proofs.Common.{◌≤◌, length, sym, ap, ◌∙◌, arith}
use Rattle.std.proofs.lemmas.Bool.{eqb-false, eqb-true}
use Rattle.std.proofs.lemmas.List.{take_all}
use Rattle.dbpl_value.specs.Types.{count_of, scalars_of}
use Rattle.dbpl_value.proofs.Products.{cut_mul}
use Rattle.dbpl_value.proofs.TypeKinds.{none_at, scalars_of-Arr, scalars_of-filled, scalars_of-none, scalars_of-other}
use Rattle.dbpl_value.proofs.scalars.+scalars.Goals as goal

pub scalars_of-returns-in-Arr : goal.scalars_of-returns-in-Arr
scalars_of-returns-in-Arr t c =
    rw (c.in-Arr.is, scalars_of-Arr c.in-Arr.index c.in-Arr.element, ← cut_mul (count_of c.in-Arr.index) (scalars_of c.in-Arr.element) 18446744073709551615 (omega arith), ← c.get.ensures, ← c.get-in-Arr.ensures, ← c.counted.ensures, ← c.scalars_of.ensures)
    c.saturating_mul.ensures

pub scalars_of-returns-in-Rec : goal.scalars_of-returns-in-Rec
scalars_of-returns-in-Rec t c = rw (c.in-Rec.is, ← c.as_slice.ensures) c.scalars_of_record.ensures

pub scalars_of-returns-in_default : goal.scalars_of-returns-in_default
scalars_of-returns-in_default t c = rw (scalars_of-other c.args.t.now c.in_default.not-Arr c.in_default.not-Rec) (omega arith)

pub scalars_of_record-returns-then-is_empty : goal.scalars_of_record-returns-then-is_empty
scalars_of_record-returns-then-is_empty t c =
    let none = none_at c.args.fields.now (eqb-true (length c.args.fields.now) 0 (sym c.is_empty.ensures ∙ c.if-is_empty.true)) in
    rw (none, scalars_of-none) (omega arith)

pub scalars_of_record-returns : goal.scalars_of_record-returns
scalars_of_record-returns t c =
    let some = eqb-false (length c.args.fields.now) 0 (sym c.is_empty.ensures ∙ c.if-is_empty.false) in
    let end : length c.args.fields.now ≤ c.loop-field.field-index = omega (arith, c.loop-field-test.false) in
    rw (scalars_of-filled c.args.fields.now (λ e. some (ap (λ (fields : _). length fields) e)), ← take_all c.loop-field.field-index c.args.fields.now end)
    c.loop-field.invariant
