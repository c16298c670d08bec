use Rattle.std.proofs.Common.{◌≡◌, Bool, not, None, Err, Ok, List, refl, sym, ap, subst, ◌∙◌}
use Rattle.std.specs.List.{position}
use Rattle.std.specs.Prelude.{◌≢◌, IfErr, OnOk}
use Rattle.dbpl_value.specs.Keys.{parts_of}
use Rattle.dbpl_value.specs.declared.db_type.DbType.{DbType}
use Rattle.dbpl_value.specs.declared.value.Value.{Value}
use Rattle.dbpl_value.specs.declared.value.Value.TheVariants as value
use Rattle.dbpl_relation.proofs.Changing.{all_inside, changed-inside, changed_inside-ok, position-never, removed-inside}
use Rattle.dbpl_relation.specs.Changes.{changed, changed_inside, everywhere}
use Rattle.dbpl_relation.specs.declared.change_err.ChangeErr.TheVariants as change_err
use Rattle.dbpl_relation.specs.declared.op.Op.{Op}
use Rattle.dbpl_relation.specs.declared.op.Op.TheVariants as op
use Rattle.dbpl_relation.proofs.assignment.assign_through.Goals as goal

-- the statement, where none of the right side is outside
by_statement :
    (t : DbType) (given one : Op) (test : Value → Bool) (left right others : List Value) → given ≡ one → others ≡ right →
    None ≡ position (λ other. not (test other)) others →
    changed t given test left right ≡ changed_inside t one test left right
by_statement t given one test left right others is same none =
    ap (λ statement. changed t statement test left right) is
    ∙ changed-inside t one test left right (none ∙ ap (position (λ other. not (test other))) same)

-- adding asks nothing of the selector
by_adding :
    (t : DbType) (test : Value → Bool) (left right : List Value) →
    changed_inside t op.Add test left right ≡ changed t op.Add everywhere left right
by_adding t test left right =
    sym (changed-inside t op.Add everywhere left right (position-never _ right (λ other. refl)))

pub returns-in-Set-clause-changed : goal.returns-in-Set-clause-changed
returns-in-Set-clause-changed g c test computes =
    let t = c.args.t.now in
    let left = parts_of c.args.r.now in
    let right = parts_of c.args.e.now in
    let none = sym c.in_default.is ∙ c.first_outside.ensures test computes in
    subst (λ answer. OnOk c.set_inside.result (answer ≡ Ok c.set_inside.new.r))
    (sym (by_statement t c.args.op op.Set test left right _ c.in-Set.is c.records_of.ensures.same none))
    (c.set_inside.ensures.changed test computes)

pub returns-in-Set-clause-refused : goal.returns-in-Set-clause-refused
returns-in-Set-clause-refused g c test computes =
    let t = c.args.t.now in
    let left = parts_of c.args.r.now in
    let right = parts_of c.args.e.now in
    let none = sym c.in_default.is ∙ c.first_outside.ensures test computes in
    subst
    (λ answer. IfErr c.set_inside.result (λ refusal. refusal ≢ change_err.Memory → answer ≡ Err refusal))
    (sym (by_statement t c.args.op op.Set test left right _ c.in-Set.is c.records_of.ensures.same none))
    (c.set_inside.ensures.refused test computes)

pub returns-in-Add-clause-changed : goal.returns-in-Add-clause-changed
returns-in-Add-clause-changed g c test computes =
    let t = c.args.t.now in
    let left = parts_of c.args.r.now in
    let right = parts_of c.args.e.now in
    let none = sym c.in_default.is ∙ c.first_outside.ensures test computes in
    subst (λ answer. OnOk c.insert.result (answer ≡ Ok c.insert.new.r))
    (sym (
    by_statement t c.args.op op.Add test left right _ c.in-Add.is c.records_of.ensures.same none
    ∙ by_adding t test left right
    ))
    c.insert.ensures.added

pub returns-in-Add-clause-refused : goal.returns-in-Add-clause-refused
returns-in-Add-clause-refused g c test computes =
    let t = c.args.t.now in
    let left = parts_of c.args.r.now in
    let right = parts_of c.args.e.now in
    let none = sym c.in_default.is ∙ c.first_outside.ensures test computes in
    subst (λ answer. IfErr c.insert.result (λ refusal. refusal ≢ change_err.Memory → answer ≡ Err refusal))
    (sym (
    by_statement t c.args.op op.Add test left right _ c.in-Add.is c.records_of.ensures.same none
    ∙ by_adding t test left right
    ))
    c.insert.ensures.refused

pub returns-in-Remove-clause-changed : goal.returns-in-Remove-clause-changed
returns-in-Remove-clause-changed g c test computes =
    let t = c.args.t.now in
    let left = parts_of c.args.r.now in
    let right = parts_of c.args.e.now in
    let none = sym c.in_default.is ∙ c.first_outside.ensures test computes in
    let none_right = none ∙ ap (position (λ (other : Value). not (test other))) c.records_of.ensures.same in
    by_statement t c.args.op op.Remove test left right _ c.in-Remove.is c.records_of.ensures.same none
    ∙ changed_inside-ok t op.Remove test left right (position-never _ right (λ other. refl))
    ∙ ap (λ records. Ok (value.Rel records)) (removed-inside test left right (all_inside test right none_right))
    ∙ sym (ap Ok c.remove.ensures.removed)

pub returns-clause-changed : goal.returns-clause-changed
returns-clause-changed g c test computes =
    let t = c.args.t.now in
    let left = parts_of c.args.r.now in
    let right = parts_of c.args.e.now in
    let none = sym c.in_default.is ∙ c.first_outside.ensures test computes in
    by_statement t c.args.op op.Replace test left right _ c.in-Replace.is c.records_of.ensures.same none
    ∙ changed_inside-ok t op.Replace test left right (position-never _ right (λ other. refl))
    ∙ sym (ap Ok (c.in_ok-replace_inside-in-Replace.ensures.replaced test computes))
