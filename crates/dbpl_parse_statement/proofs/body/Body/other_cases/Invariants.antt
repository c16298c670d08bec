-- What is read so far.
use Rattle.std.proofs.Common.{◌≡◌, ◌∷◌, [], drop, ◌-◌}
use Rattle.dbpl_grammar.specs.Expressions.{at_depth}
use Rattle.dbpl_grammar.specs.Reading.{after, many, many_from}
use Rattle.dbpl_grammar.specs.Statements as spec
use Rattle.dbpl_tree.specs.Words as lexeme
use Rattle.dbpl_parse_statement.proofs.body.Body.other_cases.Given as goal

abbrev pub invariant-loop-turn : goal.invariant-loop-turn
invariant-loop-turn g l =
    many (lexeme.bar ∷ []) (after lexeme.bar (spec.case_by (at_depth l.self.depth) (spec.statements_at l.self.depth))) (drop l.fn.at l.fn.tokens) ≡ many_from (lexeme.bar ∷ []) (after lexeme.bar (spec.case_by (at_depth l.self.depth) (spec.statements_at l.self.depth))) (l._turn-end - l._turn) l.found (drop l.next l.tokens)
