-- The depths of phrases of any depth, and of the depths about the limit of 64.
use Rattle.std.proofs.Common.{◌≡◌, ℕ, zero, suc, max, [], ap, ◌∙◌, arith}
use Rattle.dbpl_tree.proofs.Examples.{expr_of, one, p}
use Rattle.dbpl_tree.proofs.Levels.{factor_depth-roll}
use Rattle.dbpl_tree.proofs.StatementLevels.{statement_depth-roll, type_depth-roll}
use Rattle.dbpl_tree.proofs.UnitExamples.{only_a, s1, t1}
use Rattle.dbpl_tree.specs.Depths.{expr_depth, factor_depth}
use Rattle.dbpl_tree.specs.UnitDepths.{statement_depth, statements_depth, type_depth}
use Rattle.dbpl_tree.specs.declared.element.Element.TheOpen as phrases
use Rattle.dbpl_tree.specs.declared.factor.Factor.{Factor, roll-Factor}
use Rattle.dbpl_tree.specs.declared.operators.NotOperator.TheVariants as negation
use Rattle.dbpl_tree.specs.declared.statement.Statement.{Statement, roll-Statement}
use Rattle.dbpl_tree.specs.declared.statement.Statement.TheOpen as kinds
use Rattle.dbpl_tree.specs.declared.type_tree.TypeTree.{TypeTree, roll-TypeTree}
use Rattle.dbpl_tree.specs.declared.type_tree.TypeTree.TheOpen as types

max-0 : (n : ℕ) → max n 0 ≡ n
max-0 n = omega arith

-- `NOT NOT .. 1`, with this many words NOT
pub negations : ℕ → Factor
negations zero = one
negations (suc n) = roll-Factor (phrases.Not p negation.Not (negations n))

negations-depth : (n : ℕ) → factor_depth (negations n) ≡ n
unfolding one negations
negations-depth zero = factor_depth-roll (phrases.Number p 1)
negations-depth (suc n) = factor_depth-roll (phrases.Not p negation.Not (negations n)) ∙ ap suc (negations-depth n)

-- an expression with n negations inside one another has the depth n + 1
pub negated : (n : ℕ) → expr_depth factor_depth (expr_of (negations n)) ≡ suc n
negated n = rw (negations-depth n) (ap suc (omega arith))

pub depth_1 : expr_depth factor_depth (expr_of (negations 0)) ≡ 1
depth_1 = negated 0

pub depth_63 : expr_depth factor_depth (expr_of (negations 62)) ≡ 63
depth_63 = negated 62

pub depth_64 : expr_depth factor_depth (expr_of (negations 63)) ≡ 64
depth_64 = negated 63

pub depth_65 : expr_depth factor_depth (expr_of (negations 64)) ≡ 65
depth_65 = negated 64

-- ---- statements and types

-- `LOOP LOOP .. EXIT .. END END`, with this many loops
pub loops : ℕ → Statement
loops zero = s1
loops (suc n) = roll-Statement (kinds.Loop p (record { first = loops n; others = [] }))

loops-depth : (n : ℕ) → statement_depth (loops n) ≡ n
unfolding s1 loops
loops-depth zero = statement_depth-roll (kinds.Exit p)
loops-depth (suc n) =
    statement_depth-roll (kinds.Loop p (record { first = loops n; others = [] }))
    ∙ ap (λ depth. suc (max depth 0)) (loops-depth n)
    ∙ ap suc (max-0 n)

-- n loops inside one another have the depth n + 1 with the list that holds them
pub looped : (n : ℕ) → statements_depth statement_depth (record { first = loops n; others = [] }) ≡ suc n
looped n = ap (λ depth. suc (max depth 0)) (loops-depth n) ∙ ap suc (max-0 n)

pub body_64 : statements_depth statement_depth (record { first = loops 63; others = [] }) ≡ 64
body_64 = looped 63

pub body_65 : statements_depth statement_depth (record { first = loops 64; others = [] }) ≡ 65
body_65 = looped 64

-- `ARRAY a OF ARRAY a OF .. a`, with this many arrays
pub arrays : ℕ → TypeTree
arrays zero = t1
arrays (suc n) = roll-TypeTree (types.Array p t1 [] (arrays n))

t1-depth : type_depth t1 ≡ 1
unfolding t1
t1-depth = type_depth-roll (types.Named only_a)

-- n arrays inside one another have the depth n + 1
pub arrays-depth : (n : ℕ) → type_depth (arrays n) ≡ suc n
unfolding arrays
arrays-depth zero = t1-depth
arrays-depth (suc n) =
    type_depth-roll (types.Array p t1 [] (arrays n))
    ∙ rw (t1-depth, arrays-depth n) (ap suc (omega arith))
