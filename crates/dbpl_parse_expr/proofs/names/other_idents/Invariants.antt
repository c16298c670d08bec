-- What is read so far.
use Rattle.std.proofs.Common.{◌≡◌, ◌∷◌, [], drop, ◌-◌}
use Rattle.dbpl_grammar.specs.Expressions as spec
use Rattle.dbpl_tree.specs.Words as lexeme
use Rattle.dbpl_grammar.specs.Reading.{after, many, many_from}
use Rattle.dbpl_parse_expr.proofs.names.other_idents.Given as goal

abbrev pub invariant-loop-turn : goal.invariant-loop-turn
invariant-loop-turn l =
    many (lexeme.comma ∷ []) (after lexeme.comma spec.ident) (drop l.fn.at l.fn.tokens)
    ≡ many_from (lexeme.comma ∷ []) (after lexeme.comma spec.ident) (l._turn-end - l._turn) l.found (drop l.next l.tokens)
