use Rattle.std.proofs.Common.{arith, refl}
use Rattle.dbpl_judging.proofs.NodeLaws.{field_more, field_within}
use Rattle.dbpl_judging.proofs.nodes.+nodes.Goals as goal

pub room_behind_fields-returns-in_err-checked_sub-clause-none :
    goal.room_behind_fields-returns-in_err-checked_sub-clause-none
room_behind_fields-returns-in_err-checked_sub-clause-none t c = λ none.
    let more = field_within c.args.fields.now c.loop-field.field-index c.field-item.result c.loop-field-test.true c.field-item.is in
    omega (arith, more, c.loop-field.invariant, c.in_err-checked_sub.ensures)

pub room_behind_fields-returns-in_err-room-clause-none :
    goal.room_behind_fields-returns-in_err-room-clause-none
room_behind_fields-returns-in_err-room-clause-none t c = λ none.
    let more = field_within c.args.fields.now c.loop-field.field-index c.field-item.result c.loop-field-test.true c.field-item.is in
    omega (arith, more, c.loop-field.invariant, c.in_ok-checked_sub.ensures, c.in_err-room.ensures.none refl)

pub room_behind_fields-loop-field-preserved : goal.room_behind_fields-loop-field-preserved
room_behind_fields-loop-field-preserved t c =
    let more = field_more c.args.fields.now c.loop-field.field-index c.field-item.result c.loop-field-test.true c.field-item.is in
    omega (arith, more, c.loop-field.invariant, c.in_ok-checked_sub.ensures, c.in_ok-room.ensures.some)
