-- Each turn puts one number behind those so far, or finds an element of another form.
use Rattle.std.proofs.Common.{[], sym}
use Rattle.dbpl_stored_form.proofs.Turns.{turn_more, turn_none}
use Rattle.dbpl_stored_form.specs.Statements.{numbers_in}
use Rattle.dbpl_stored_form.proofs.aggregates.numbers_of.Goals as goal

pub returns-then-not-branch : goal.returns-then-not-branch
returns-then-not-branch c =
    sym (turn_none numbers_in [] c.args.elements.now c.loop-element.element-index c.element-item.result c.in_ok-add_number.field-0
    c.loop-element.row c.add_number.new.row c.element-item.is c.loop-element-test.true c.loop-element.invariant
    c.in_ok-add_number.ensures c.if-not-branch.true)

pub loop-element-preserved : goal.loop-element-preserved
loop-element-preserved c =
    turn_more numbers_in [] c.args.elements.now c.loop-element.element-index c.element-item.result c.in_ok-add_number.field-0
    c.loop-element.row c.add_number.new.row c.element-item.is c.loop-element-test.true c.loop-element.invariant
    c.in_ok-add_number.ensures c.if-not-branch.false
