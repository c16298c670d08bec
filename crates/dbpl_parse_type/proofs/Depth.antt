-- What is read at a depth, by the depth below it.
use Rattle.std.proofs.Common.{◌≡◌, ℕ, suc, ◌-◌, ◌<◌, refl, arith}
use Rattle.dbpl_grammar.specs.Expressions.{at_depth}
use Rattle.dbpl_grammar.specs.Reading.{too_deep}
use Rattle.dbpl_grammar.specs.Types.{type_at, type_first, type_by}

-- no phrase may stand there
pub shallow : (depth : ℕ) → depth ≡ 0 → type_at depth ≡ too_deep type_first
unfolding type_at
shallow depth none = rw none refl

-- a phrase may stand there, and one less in it
pub deeper : (depth : ℕ) → 0 < depth → type_at depth ≡ type_by (at_depth (depth - 1)) (type_at (depth - 1))
unfolding type_at
deeper depth some = let one : depth ≡ suc (depth - 1) = omega (arith, some) in deeper_from depth (depth - 1) one
  where
    deeper_from : (depth less : ℕ) → depth ≡ suc less → type_at depth ≡ type_by (at_depth less) (type_at less)
    deeper_from depth less is = rw is refl
