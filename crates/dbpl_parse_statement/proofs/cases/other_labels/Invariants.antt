-- What is read so far.
use Rattle.std.proofs.Common.{◌≡◌, ◌∷◌, [], drop, ◌-◌}
use Rattle.dbpl_grammar.specs.Expressions.{at_depth}
use Rattle.dbpl_grammar.specs.Reading.{after, many, many_from}
use Rattle.dbpl_grammar.specs.Statements as spec
use Rattle.dbpl_tree.specs.Words as lexeme
use Rattle.dbpl_parse_statement.proofs.cases.other_labels.Given as goal

abbrev pub invariant-loop-turn : goal.invariant-loop-turn
invariant-loop-turn l =
    many (lexeme.comma ∷ []) (after lexeme.comma (spec.label (at_depth l.depth))) (drop l.fn.at l.fn.tokens) ≡ many_from (lexeme.comma ∷ []) (after lexeme.comma (spec.label (at_depth l.depth))) (l._turn-end - l._turn) l.found (drop l.next l.tokens)
