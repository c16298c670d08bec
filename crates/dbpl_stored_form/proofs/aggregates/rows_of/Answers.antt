-- Each turn puts one row behind those so far, or finds an element of another form.
use Rattle.std.proofs.Common.{[], sym}
use Rattle.dbpl_stored_form.proofs.Turns.{turn_more, turn_none}
use Rattle.dbpl_stored_form.specs.Statements.{rows_in}
use Rattle.dbpl_stored_form.proofs.aggregates.rows_of.Goals as goal

pub returns-then-not-branch : goal.returns-then-not-branch
returns-then-not-branch c =
    sym (turn_none (rows_in c.args.schema.now) [] c.args.elements.now c.loop-element.element-index c.element-item.result
    c.in_ok-add_row.field-0 c.loop-element.rows c.add_row.new.rows c.element-item.is c.loop-element-test.true
    c.loop-element.invariant c.in_ok-add_row.ensures c.if-not-branch.true)

pub loop-element-preserved : goal.loop-element-preserved
loop-element-preserved c =
    turn_more (rows_in c.args.schema.now) [] c.args.elements.now c.loop-element.element-index c.element-item.result
    c.in_ok-add_row.field-0 c.loop-element.rows c.add_row.new.rows c.element-item.is c.loop-element-test.true
    c.loop-element.invariant c.in_ok-add_row.ensures c.if-not-branch.false
