-- Each turn puts what one statement gives behind what is there, or finds one of another form.
use Rattle.std.proofs.Common.{[], ◌∷◌, sym}
use Rattle.dbpl_stored_form.proofs.Turns.{first_none, first_some, turn_more, turn_none}
use Rattle.dbpl_stored_form.specs.Statements.{actions_in}
use Rattle.dbpl_stored_form.proofs.actions.actions_of.Goals as goal

pub returns-then-not-branch : goal.returns-then-not-branch
returns-then-not-branch c =
    sym (first_none (actions_in c.args.transaction.now c.args.imports.now) c.args.first.now c.args.others.now c.in_ok-add_action.field-0 c.new-actions.result c.add_action.new.actions
    c.new-actions.ensures c.in_ok-add_action.ensures c.if-not-branch.true)

pub loop-statement-init : goal.loop-statement-init
loop-statement-init c =
    first_some (actions_in c.args.transaction.now c.args.imports.now) c.args.first.now c.in_ok-add_action.field-0 c.new-actions.result c.add_action.new.actions c.new-actions.ensures
    c.in_ok-add_action.ensures c.if-not-branch.false

pub returns-then-not-branch-2 : goal.returns-then-not-branch-2
returns-then-not-branch-2 c =
    sym (turn_none (actions_in c.args.transaction.now c.args.imports.now) (c.args.first.now ∷ []) c.args.others.now c.loop-statement.statement-index c.statement-item.result
    c.in_ok-add_action-2.field-0 c.loop-statement.actions c.add_action-in-loop-statement.new.actions c.statement-item.is c.loop-statement-test.true
    c.loop-statement.invariant c.in_ok-add_action-2.ensures c.if-not-branch-2.true)

pub loop-statement-preserved : goal.loop-statement-preserved
loop-statement-preserved c =
    turn_more (actions_in c.args.transaction.now c.args.imports.now) (c.args.first.now ∷ []) c.args.others.now c.loop-statement.statement-index c.statement-item.result
    c.in_ok-add_action-2.field-0 c.loop-statement.actions c.add_action-in-loop-statement.new.actions c.statement-item.is c.loop-statement-test.true
    c.loop-statement.invariant c.in_ok-add_action-2.ensures c.if-not-branch-2.false
