-- Where one more can't be read, the whole can't be.
use Rattle.std.proofs.Common.{rules, ◌∷◌, [], drop, sym, ◌∙◌, arith}
use Rattle.std.proofs.lemmas.Grind.{common_steps}
use Rattle.dbpl_grammar.specs.Expressions.{at_depth}
use Rattle.dbpl_grammar.specs.Reading.{Refused, after, many}
use Rattle.dbpl_grammar.specs.Statements as spec
use Rattle.dbpl_parse_expr.proofs.Loops.{fails}
use Rattle.dbpl_tree.specs.Words as lexeme
use Rattle.dbpl_parse_statement.proofs.body.Body.other_cases.Goals as goal

pub returns-in_err-one : goal.returns-in_err-one
returns-in_err-one g c =
    let failed = λ (refused : Refused). fails (lexeme.bar ∷ []) (after lexeme.bar (spec.case_by (at_depth c.args.self.now.depth) (spec.statements_at c.args.self.now.depth))) c.turns-turn-end.result c.loop-turn._turn c.loop-turn.found (drop c.loop-turn.next c.args.tokens.now) (many (lexeme.bar ∷ []) (after lexeme.bar (spec.case_by (at_depth c.args.self.now.depth) (spec.statements_at c.args.self.now.depth))) (drop c.args.at c.args.tokens.now)) refused c.loop-turn-test.true c.loop-turn.invariant (sym c.begins_sign.ensures ∙ c.if-not-begins_sign.false) in
    first_of (search rules, grind (arith, common_steps))
