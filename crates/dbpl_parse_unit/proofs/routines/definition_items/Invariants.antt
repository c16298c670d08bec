-- What is read so far.
use Rattle.std.proofs.Common.{◌≡◌, drop, ◌-◌}
use Rattle.dbpl_grammar.specs.Reading.{many, many_from}
use Rattle.dbpl_grammar.specs.Units as spec
use Rattle.dbpl_parse_unit.proofs.routines.definition_items.Given as goal

abbrev pub invariant-loop-turn : goal.invariant-loop-turn
invariant-loop-turn l =
    many spec.decl_first (spec.definition_item l.depth) (drop l.fn.at l.fn.tokens)
    ≡ many_from spec.decl_first (spec.definition_item l.depth) (l._turn-end - l._turn) l.found (drop l.next l.tokens)
