-- How many phrases an expression and a statement have. A number, a text, a sign, an operator, a call and an aggregate are
-- one each, a designator is one and one for each of its steps, a statement is one. A test of fit is none, since no phrase of
-- the text stands for it.
use Rattle.std.specs.Prelude.{ℕ, ◌+◌, List, [], ◌∷◌, Option, Some, None}
use Rattle.dbpl_core.specs.declared.argument_of.CoreArgumentOf.{CoreArgumentOf}
use Rattle.dbpl_core.specs.declared.argument_of.CoreArgumentOf.TheVariants as arguments
use Rattle.dbpl_core.specs.declared.arm_of.CoreArmOf.{CoreArmOf}
use Rattle.dbpl_core.specs.declared.branch_of.CoreBranchOf.{CoreBranchOf}
use Rattle.dbpl_core.specs.declared.call_of.CoreCallOf.{CoreCallOf}
use Rattle.dbpl_core.specs.declared.designator_of.CoreDesignatorOf.{CoreDesignatorOf}
use Rattle.dbpl_core.specs.declared.expr.CoreExpr.{CoreExpr, CoreExpr-F, fold-CoreExpr}
use Rattle.dbpl_core.specs.declared.expr.CoreExpr.TheOpen as exprs
use Rattle.dbpl_core.specs.declared.step_of.CoreStepOf.{CoreStepOf}
use Rattle.dbpl_core.specs.declared.step_of.CoreStepOf.TheVariants as steps
use Rattle.dbpl_core.specs.declared.stmt.CoreStmtOf.{CoreStmtOf, CoreStmtOf-F, fold-CoreStmtOf}
use Rattle.dbpl_core.specs.declared.stmt.CoreStmtOf.TheOpen as stmts

-- the sum of what these have
abbrev pub total : {A : Type 0} → (A → ℕ) → List A → ℕ
total count [] = 0
total count (x ∷ xs) = count x + total count xs

-- what it has, where it is there
abbrev pub if_there : {A : Type 0} → (A → ℕ) → Option A → ℕ
if_there count None = 0
if_there count (Some x) = count x

-- ---- expressions, over parts whose phrases are counted by `of`

abbrev pub step_phrases : {E : Type 0} → (E → ℕ) → CoreStepOf E → ℕ
step_phrases of (steps.Field number) = 1
step_phrases of (steps.Index place range index) = 1 + of index

abbrev pub designator_phrases : {E : Type 0} → (E → ℕ) → CoreDesignatorOf E → ℕ
designator_phrases of designator = 1 + total (step_phrases of) designator.steps

abbrev pub argument_phrases : {E : Type 0} → (E → ℕ) → CoreArgumentOf E → ℕ
argument_phrases of (arguments.Value e) = of e
argument_phrases of (arguments.Variable designator) = designator_phrases of designator

abbrev pub call_phrases : {E : Type 0} → (E → ℕ) → CoreCallOf E → ℕ
call_phrases of call = 1 + total (argument_phrases of) call.arguments

abbrev pub expr_phrases : {E : Type 0} → (E → ℕ) → CoreExpr-F E → ℕ
expr_phrases of (exprs.Number place n) = 1
expr_phrases of (exprs.Text place kind text) = 1
expr_phrases of (exprs.Read designator kind) = designator_phrases of designator
expr_phrases of (exprs.Fitted place kind e) = of e
expr_phrases of (exprs.Signed place sign host e) = 1 + of e
expr_phrases of (exprs.Arithmetic place at operator host left right) = 1 + (of left + of right)
expr_phrases of (exprs.Compared place at relation comparison left right) = 1 + (of left + of right)
expr_phrases of (exprs.Logical place operator left right) = 1 + (of left + of right)
expr_phrases of (exprs.Not place e) = 1 + of e
expr_phrases of (exprs.Call call kind) = call_phrases of call
expr_phrases of (exprs.Standard place which e) = 1 + of e
expr_phrases of (exprs.Packed place kind parts) = 1 + total of parts

abbrev pub same : ℕ → ℕ
same n = n

-- THE number of phrases of an expression
abbrev pub phrases_of : CoreExpr → ℕ
phrases_of e = fold-CoreExpr ℕ (expr_phrases same) e

-- ---- statements, over parts whose phrases are counted by `of`

abbrev pub arm_phrases : {S : Type 0} → (S → ℕ) → CoreArmOf CoreExpr S → ℕ
arm_phrases of arm = phrases_of arm.condition + total of arm.statements

-- Labels are no phrases: they are numbers, and only some of them are met.
abbrev pub branch_phrases : {S : Type 0} → (S → ℕ) → CoreBranchOf S → ℕ
branch_phrases of branch = total of branch.statements

-- A statement is one; where it is a call, that is the call.
abbrev pub stmt_phrases : {S : Type 0} → (S → ℕ) → CoreStmtOf-F CoreExpr S → ℕ
stmt_phrases of (stmts.Empty place) = 1
stmt_phrases of (stmts.Exit place) = 1
stmt_phrases of (stmts.Halt place) = 1
stmt_phrases of (stmts.Assign at designator e) = 1 + (designator_phrases phrases_of designator + phrases_of e)
stmt_phrases of (stmts.Call call) = call_phrases phrases_of call
stmt_phrases of (stmts.InOut place procedure given) = 1 + total (argument_phrases phrases_of) given
stmt_phrases of (stmts.Count place direction designator kind by) =
    1 + (designator_phrases phrases_of designator + if_there phrases_of by)
stmt_phrases of (stmts.If place arms otherwise) = 1 + (total (arm_phrases of) arms + if_there (total of) otherwise)
stmt_phrases of (stmts.Case place e host branches otherwise) =
    1 + (phrases_of e + (total (branch_phrases of) branches + if_there (total of) otherwise))
stmt_phrases of (stmts.While place e body) = 1 + (phrases_of e + total of body)
stmt_phrases of (stmts.Repeat place body e) = 1 + (total of body + phrases_of e)
stmt_phrases of (stmts.Loop place body) = 1 + total of body
stmt_phrases of (stmts.Return place e) = 1 + if_there phrases_of e
stmt_phrases of (stmts.For place control from to by body) =
    1 + (designator_phrases phrases_of control.variable +
    (phrases_of from + (phrases_of to + (if_there (λ n. 1) by + total of body))))

-- THE number of phrases of a statement, with those of the statements in it
abbrev pub phrases_in : CoreStmtOf CoreExpr → ℕ
phrases_in s = fold-CoreStmtOf CoreExpr ℕ (stmt_phrases same) s
