-- What is read so far.
use Rattle.std.proofs.Common.{◌≡◌, drop, ◌-◌}
use Rattle.dbpl_grammar.specs.Expressions as spec
use Rattle.dbpl_grammar.specs.Reading.{many, many_from}
use Rattle.dbpl_parse_expr.proofs.inner.Inner.all_added.Given as goal

abbrev pub invariant-loop-turn : goal.invariant-loop-turn
invariant-loop-turn g l =
    many spec.adding_first (spec.added (spec.factor (spec.at_depth l.self.depth))) (drop l.fn.at l.fn.tokens) ≡ many_from spec.adding_first (spec.added (spec.factor (spec.at_depth l.self.depth))) (l._turn-end - l._turn) l.found (drop l.next l.tokens)
