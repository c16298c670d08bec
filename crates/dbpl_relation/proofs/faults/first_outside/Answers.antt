use Rattle.std.proofs.Common.{◌≡◌, ◌<◌, false, true, not, length, refl, sym, ap, ◌∙◌, arith}
use Rattle.std.proofs.lemmas.Fn.{says_at}
use Rattle.std.specs.Prelude.{pos}
use Rattle.dbpl_value.specs.declared.value.Value.{Value}
use Rattle.dbpl_value.specs.declared.value.Value.TheVariants as value
use Rattle.dbpl_relation.proofs.FirstAt.{below_and_here, position-here, position-none}
use Rattle.dbpl_relation.proofs.faults.first_outside.Goals as goal

pub loop-i-preserved : goal.loop-i-preserved
loop-i-preserved g c test computes =
    let other = c.index-others-i.result in
    let within : c.loop-i.i < length c.args.others.now = omega arith in
    let answer = computes other c.inside.result (says_at g.F.Fn c.inside.ensures refl) in
    let here : not (test other) ≡ false = ap not (sym answer ∙ c.if-not-inside.false) in
    below_and_here (λ (v : Value). not (test v)) c.args.others.now c.loop-i.i other within c.index-others-i.is
    (c.loop-i.invariant test computes) here

pub returns-then-not-inside : goal.returns-then-not-inside
returns-then-not-inside g c test computes =
    let other = c.index-others-i.result in
    let within : c.loop-i.i < length c.args.others.now = omega arith in
    let answer = computes other c.inside.result (says_at g.F.Fn c.inside.ensures refl) in
    let here : not (test other) ≡ true = ap not (sym answer ∙ c.if-not-inside.true) in
    position-here (λ (v : Value). not (test v)) c.args.others.now c.loop-i.i other within
    (λ k below. c.loop-i.invariant test computes k other below)
    (sym (ap (λ (v : Value). not (test v)) c.index-others-i.is) ∙ here)

pub returns : goal.returns
returns g c test computes =
    position-none (λ (v : Value). not (test v)) c.args.others.now (value.Num (pos 0))
    (λ k within. c.loop-i.invariant test computes k (value.Num (pos 0)) (omega arith))
