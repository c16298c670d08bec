-- What is read so far.
use Rattle.std.proofs.Common.{◌≡◌, ◌∷◌, [], drop, ◌-◌}
use Rattle.dbpl_grammar.specs.Reading.{after, many, many_from}
use Rattle.dbpl_grammar.specs.Units as spec
use Rattle.dbpl_tree.specs.Words as lexeme
use Rattle.dbpl_parse_unit.proofs.headings.other_sections.Given as goal

abbrev pub invariant-loop-turn : goal.invariant-loop-turn
invariant-loop-turn l =
    many (lexeme.semicolon ∷ []) (after lexeme.semicolon spec.section) (drop l.fn.at l.fn.tokens)
    ≡ many_from (lexeme.semicolon ∷ []) (after lexeme.semicolon spec.section) (l._turn-end - l._turn) l.found (drop l.next l.tokens)
