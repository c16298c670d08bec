use Rattle.std.proofs.Common.{None, Some, Ok, sym, ap, ◌∙◌}
use Rattle.dbpl_value.specs.Keys.{parts_of}
use Rattle.dbpl_relation.proofs.Changing.{changed_inside-clash, changed_inside-ok, fault_in}
use Rattle.dbpl_relation.specs.Changes.{clashes}
use Rattle.dbpl_relation.specs.declared.op.Op.TheVariants as op
use Rattle.dbpl_relation.proofs.assignment.set_inside.Goals as goal

pub returns-in-Some-clause-refused : goal.returns-in-Some-clause-refused
returns-in-Some-clause-refused g c test computes not_memory =
    let t = c.args.t.now in
    let left = parts_of c.args.r.now in
    let right = parts_of c.args.e.now in
    changed_inside-clash t op.Set test left right c.in-Some.at
    (fault_in (clashes t op.Set test) _ _ left right (Some c.in-Some.at) c.records_of.ensures.same
    c.records_of-2.ensures.same (c.in-Some.ensures test computes c.records_of.ensures.rising))

pub returns-clause-changed : goal.returns-clause-changed
returns-clause-changed g c test computes =
    let t = c.args.t.now in
    let left = parts_of c.args.r.now in
    let right = parts_of c.args.e.now in
    changed_inside-ok t op.Set test left right
    (fault_in (clashes t op.Set test) _ _ left right None c.records_of.ensures.same c.records_of-2.ensures.same
    (sym c.in_default.is ∙ c.first_taken.ensures test computes c.records_of.ensures.rising))
    ∙ sym (ap Ok (c.in_ok-exchange_in.ensures.set test computes))
