-- Each turn puts what one group of fields gives behind what is there, or finds one of another form.
use Rattle.std.proofs.Common.{[], ◌∷◌, sym}
use Rattle.dbpl_stored_form.proofs.Turns.{first_none, first_some, turn_more, turn_none}
use Rattle.dbpl_stored_form.specs.DataModules.{fields_named}
use Rattle.dbpl_stored_form.proofs.data_modules.fields_in.Goals as goal

pub returns-then-not-branch : goal.returns-then-not-branch
returns-then-not-branch c =
    sym (first_none fields_named c.args.first.now c.args.others.now c.in_ok-add_fields.field-0 c.new-names.result c.add_fields.new.names
    c.new-names.ensures c.in_ok-add_fields.ensures c.if-not-branch.true)

pub loop-group-init : goal.loop-group-init
loop-group-init c =
    first_some fields_named c.args.first.now c.in_ok-add_fields.field-0 c.new-names.result c.add_fields.new.names c.new-names.ensures
    c.in_ok-add_fields.ensures c.if-not-branch.false

pub returns-then-not-branch-2 : goal.returns-then-not-branch-2
returns-then-not-branch-2 c =
    sym (turn_none fields_named (c.args.first.now ∷ []) c.args.others.now c.loop-group.group-index c.group-item.result
    c.in_ok-add_fields-2.field-0 c.loop-group.names c.add_fields-in-loop-group.new.names c.group-item.is c.loop-group-test.true
    c.loop-group.invariant c.in_ok-add_fields-2.ensures c.if-not-branch-2.true)

pub loop-group-preserved : goal.loop-group-preserved
loop-group-preserved c =
    turn_more fields_named (c.args.first.now ∷ []) c.args.others.now c.loop-group.group-index c.group-item.result
    c.in_ok-add_fields-2.field-0 c.loop-group.names c.add_fields-in-loop-group.new.names c.group-item.is c.loop-group-test.true
    c.loop-group.invariant c.in_ok-add_fields-2.ensures c.if-not-branch-2.false
