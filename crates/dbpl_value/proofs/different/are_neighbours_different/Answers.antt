use Rattle.std.proofs.Common.{sym, ◌∙◌, arith}
use Rattle.dbpl_value.proofs.SortedNames.{different-not, different-sorted}
use Rattle.dbpl_value.proofs.different.are_neighbours_different.Goals as goal

pub returns-then-eq : goal.returns-then-eq
returns-then-eq c = λ sorted.
    sym (different-not (λ x. x.now) c.args.names.now c.loop-i.i _ _ c.loop-i.auto.i c.loop-i-test.true
    (sym c.eq.ensures ∙ c.if-eq.true))

pub returns : goal.returns
returns c = λ sorted.
    sym (different-sorted (λ x. x.now) c.args.names.now sorted (λ k d within. c.loop-i.invariant k d (omega arith)))
