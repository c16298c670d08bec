-- What is read at a depth, by the depth below it.
use Rattle.std.proofs.Common.{◌≡◌, ℕ, suc, ◌-◌, ◌<◌, ◌∷◌, ◌++◌, refl, arith}
use Rattle.dbpl_grammar.specs.Expressions.{at_depth}
use Rattle.dbpl_grammar.specs.Lexemes.{an_ident}
use Rattle.dbpl_grammar.specs.Reading.{too_deep}
use Rattle.dbpl_grammar.specs.Statements.{statement_by, statement_words, statements_after, statements_at, statements_by}

-- no statements may stand there
pub shallow : (depth : ℕ) → depth ≡ 0 → statements_at depth ≡ too_deep (an_ident ∷ statement_words ++ statements_after)
unfolding statements_at
shallow depth none = rw none refl

-- statements may stand there, and one less in them
pub deeper : (depth : ℕ) → 0 < depth → statements_at depth ≡ statements_by (statement_by (at_depth (depth - 1)) (statements_at (depth - 1)))
unfolding statements_at
deeper depth some = let one : depth ≡ suc (depth - 1) = omega (arith, some) in deeper_from depth (depth - 1) one
  where
    deeper_from : (depth less : ℕ) → depth ≡ suc less → statements_at depth ≡ statements_by (statement_by (at_depth less) (statements_at less))
    deeper_from depth less is = rw is refl
