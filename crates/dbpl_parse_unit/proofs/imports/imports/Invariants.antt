-- What is read so far.
use Rattle.std.proofs.Common.{◌≡◌, drop, ◌-◌}
use Rattle.dbpl_grammar.specs.Reading.{many, many_from}
use Rattle.dbpl_grammar.specs.Units as spec
use Rattle.dbpl_parse_unit.proofs.imports.imports.Given as goal

abbrev pub invariant-loop-turn : goal.invariant-loop-turn
invariant-loop-turn l =
    many spec.import_first spec.import (drop l.fn.at l.fn.tokens)
    ≡ many_from spec.import_first spec.import (l._turn-end - l._turn) l.found (drop l.next l.tokens)
