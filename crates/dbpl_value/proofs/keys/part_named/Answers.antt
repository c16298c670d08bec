use Rattle.std.proofs.Common.{◌≡◌, ◌<◌, ◌≤◌, false, true, min, length, sym, ◌∙◌, arith}
use Rattle.dbpl_value.specs.Types.{is_same_name}
use Rattle.dbpl_value.proofs.KeysLemmas.{part_named-end, part_named-here, part_named-later}
use Rattle.dbpl_value.proofs.keys.part_named.Goals as goal

pub loop-i-preserved : goal.loop-i-preserved
loop-i-preserved c =
    let fields_in : c.loop-i.i < length c.args.fields.now = omega arith in
    let parts_in : c.loop-i.i < length c.args.parts.now = omega arith in
    let other : is_same_name c.index-fields-i.result.name c.args.name.now ≡ false =
    rw (c.index-fields-i.is) (sym c.eq.ensures ∙ c.if-eq.false)
    in
    c.loop-i.invariant
    ∙ part_named-later c.args.fields.now c.args.parts.now c.args.name.now c.loop-i.i c.index-fields-i.result
    c.index-parts-i.result fields_in parts_in c.index-fields-i.is c.index-parts-i.is other

pub returns-then-eq : goal.returns-then-eq
returns-then-eq c =
    let fields_in : c.loop-i.i < length c.args.fields.now = omega arith in
    let parts_in : c.loop-i.i < length c.args.parts.now = omega arith in
    let same : is_same_name c.index-fields-i.result.name c.args.name.now ≡ true =
    rw (c.index-fields-i.is) (sym c.eq.ensures ∙ c.if-eq.true)
    in
    sym (
    c.loop-i.invariant
    ∙ part_named-here c.args.fields.now c.args.parts.now c.args.name.now c.loop-i.i c.index-fields-i.result
    c.index-parts-i.result fields_in parts_in c.index-fields-i.is c.index-parts-i.is same
    )

pub returns : goal.returns
returns c =
    let end : min (length c.args.fields.now) (length c.args.parts.now) ≤ c.loop-i.i = omega arith in
    sym (c.loop-i.invariant ∙ part_named-end c.args.fields.now c.args.parts.now c.args.name.now c.loop-i.i end)
