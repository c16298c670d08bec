-- What is read at a depth, by the depth below it.
use Rattle.std.proofs.Common.{◌≡◌, ℕ, suc, ◌-◌, ◌<◌, refl, arith}
use Rattle.dbpl_grammar.specs.Expressions.{at_depth, expr, expr_first, factor, ident_first, negated, not_first, range}
use Rattle.dbpl_grammar.specs.Reading.{too_deep}

-- no phrase may stand there
pub shallow : (depth : ℕ) → depth ≡ 0 → at_depth depth ≡ record { expr = too_deep expr_first; range = too_deep ident_first; negated = too_deep not_first }
unfolding at_depth
shallow depth none = rw none refl

-- a phrase may stand there, and one less in it
pub deeper : (depth : ℕ) → 0 < depth → at_depth depth ≡ record { expr = expr (factor (at_depth (depth - 1))); range = range (at_depth (depth - 1)); negated = negated (at_depth (depth - 1)) }
unfolding at_depth
deeper depth some = let one : depth ≡ suc (depth - 1) = omega (arith, some) in deeper_from depth (depth - 1) one
  where
    deeper_from : (depth less : ℕ) → depth ≡ suc less → at_depth depth ≡ record { expr = expr (factor (at_depth less)); range = range (at_depth less); negated = negated (at_depth less) }
    deeper_from depth less is = rw is refl
