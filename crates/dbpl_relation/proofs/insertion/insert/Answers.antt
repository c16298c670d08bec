use Rattle.std.proofs.Common.{None, Some, Ok, refl, sym, ap, ◌∙◌}
use Rattle.dbpl_value.specs.Keys.{parts_of}
use Rattle.dbpl_relation.proofs.Changing.{changed-inside, changed_inside-clash, changed_inside-ok, fault_in, position-never}
use Rattle.dbpl_relation.specs.Changes.{clashes, everywhere}
use Rattle.dbpl_relation.specs.declared.op.Op.TheVariants as op
use Rattle.dbpl_relation.proofs.insertion.insert.Goals as goal

pub returns-in-Some-clause-refused : goal.returns-in-Some-clause-refused
returns-in-Some-clause-refused c not_memory =
    let t = c.args.t.now in
    let left = parts_of c.args.r.now in
    let right = parts_of c.args.e.now in
    let none_outside = position-never _ right (λ other. refl) in
    changed-inside t op.Add everywhere left right none_outside
    ∙ changed_inside-clash t op.Add everywhere left right c.in-Some.at
    (fault_in (clashes t op.Add everywhere) _ _ left right (Some c.in-Some.at) c.records_of.ensures.same c.records_of-2.ensures.same
    (c.in-Some.ensures c.records_of.ensures.rising))

pub returns-clause-added : goal.returns-clause-added
returns-clause-added c =
    let t = c.args.t.now in
    let left = parts_of c.args.r.now in
    let right = parts_of c.args.e.now in
    let none_outside = position-never _ right (λ other. refl) in
    changed-inside t op.Add everywhere left right none_outside
    ∙ changed_inside-ok t op.Add everywhere left right
    (fault_in (clashes t op.Add everywhere) _ _ left right None c.records_of.ensures.same c.records_of-2.ensures.same
    (sym c.in_default.is ∙ c.first_different.ensures c.records_of.ensures.rising))
    ∙ sym (ap Ok c.in_ok-add.ensures.added)
