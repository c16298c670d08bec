use Rattle.std.proofs.Common.{◌≡◌, ◌<◌, true, length, sym, ap, ◌∙◌, arith}
use Rattle.std.specs.Prelude.{pos}
use Rattle.dbpl_value.specs.declared.value.Value.TheVariants as value
use Rattle.dbpl_relation.proofs.FirstAt.{position-here, position-none}
use Rattle.dbpl_relation.specs.Changes.{clashes}
use Rattle.dbpl_relation.specs.declared.op.Op.TheVariants as op
use Rattle.dbpl_relation.proofs.faults.first_taken.Goals as goal

pub returns-then-is_taken : goal.returns-then-is_taken
returns-then-is_taken g c test computes rises =
    let at_fault = clashes c.args.t.now op.Set test c.args.records.now in
    let other = c.index-others-i.result in
    let within : c.loop-i.i < length c.args.others.now = omega arith in
    let here : at_fault other ≡ true = sym (c.is_taken.ensures test computes rises) ∙ c.if-is_taken.true in
    position-here at_fault c.args.others.now c.loop-i.i other within
    (λ k below. c.loop-i.invariant test computes rises k other below) (sym (ap at_fault c.index-others-i.is) ∙ here)

pub returns : goal.returns
returns g c test computes rises =
    position-none (clashes c.args.t.now op.Set test c.args.records.now) c.args.others.now (value.Num (pos 0))
    (λ k within. c.loop-i.invariant test computes rises k (value.Num (pos 0)) (omega arith))
