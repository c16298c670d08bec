-- Where one more can't be read, the whole can't be.
use Rattle.std.proofs.Common.{rules, ◌∷◌, [], drop, sym, ◌∙◌, arith}
use Rattle.std.proofs.lemmas.Grind.{common_steps}
use Rattle.dbpl_grammar.specs.Expressions as spec
use Rattle.dbpl_grammar.specs.Reading.{Refused, after, many}
use Rattle.dbpl_tree.specs.Words as lexeme
use Rattle.dbpl_parse_expr.proofs.Loops.{fails}
use Rattle.dbpl_parse_expr.proofs.inner.Inner.other_exprs.Goals as goal

pub returns-in_err-one : goal.returns-in_err-one
returns-in_err-one g c =
    let failed = λ (refused : Refused). fails (lexeme.comma ∷ []) (after lexeme.comma (spec.at_depth c.args.self.now.depth).expr) c.turns-turn-end.result c.loop-turn._turn c.loop-turn.found (drop c.loop-turn.next c.args.tokens.now) (many (lexeme.comma ∷ []) (after lexeme.comma (spec.at_depth c.args.self.now.depth).expr) (drop c.args.at c.args.tokens.now)) refused c.loop-turn-test.true c.loop-turn.invariant (sym c.begins_sign.ensures ∙ c.if-not-begins_sign.false) in
    first_of (search rules, grind (arith, common_steps))
