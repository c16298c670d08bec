use Rattle.std.proofs.Common.{◌<◌, ◌≤◌, min, length, arith}
use Rattle.dbpl_value.proofs.Pairs.{take-zip-all}
use Rattle.dbpl_value.proofs.SizesLemmas.{size_of-Rec, size_of_fields-more}
use Rattle.dbpl_value.proofs.sizes.+sizes.Goals as goal

pub size_of-returns-in-Rec : goal.size_of-returns-in-Rec
size_of-returns-in-Rec t c =
    rw (c.in-Rec.is, size_of-Rec c.in-Rec.fields c.args.v.now, ← c.as_slice.ensures, ← c.parts_of-in-Rec.ensures)
    c.size_of_fields.ensures

pub size_of_fields-loop-i-preserved : goal.size_of_fields-loop-i-preserved
size_of_fields-loop-i-preserved t c =
    let fields_in : c.loop-i.i < length c.args.fields.now = omega arith in
    let parts_in : c.loop-i.i < length c.args.parts.now = omega arith in
    let more =
    size_of_fields-more c.args.fields.now c.args.parts.now c.loop-i.i c.index-fields-i.result c.index-parts-i.result
    fields_in parts_in c.index-fields-i.is c.index-parts-i.is
    in
    let size = rw (← c.index-fields-i.is) at c.size_of.ensures in
    rw more (omega (arith, size))

pub size_of_fields-returns : goal.size_of_fields-returns
size_of_fields-returns t c =
    let end : min (length c.args.fields.now) (length c.args.parts.now) ≤ c.loop-i.i = omega arith in
    rw (← take-zip-all c.args.fields.now c.args.parts.now c.loop-i.i end) c.loop-i.invariant
