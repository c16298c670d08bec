-- What is read so far.
use Rattle.std.proofs.Common.{◌≡◌, ◌∷◌, [], drop, ◌-◌}
use Rattle.dbpl_grammar.specs.Reading.{after, many, many_from}
use Rattle.dbpl_grammar.specs.Types as spec
use Rattle.dbpl_tree.specs.Words as lexeme
use Rattle.dbpl_parse_type.proofs.inner.InnerType.other_fields.Given as goal

abbrev pub invariant-loop-turn : goal.invariant-loop-turn
invariant-loop-turn g l =
    many (lexeme.semicolon ∷ []) (after lexeme.semicolon (spec.fields (spec.type_at l.self.depth))) (drop l.fn.at l.fn.tokens)
    ≡ many_from (lexeme.semicolon ∷ []) (after lexeme.semicolon (spec.fields (spec.type_at l.self.depth))) (l._turn-end - l._turn) l.found (drop l.next l.tokens)
