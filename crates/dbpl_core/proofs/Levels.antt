-- One level of an expression or a statement: its phrases are its own and those of the expressions and statements in it.
use Rattle.std.proofs.Common.{◌≡◌, ℕ, ◌+◌, List, [], ◌∷◌, Option, Some, None, map, refl, ◌∙◌}
use Rattle.dbpl_base.specs.declared.place.Place.{Place}
use Rattle.dbpl_core.specs.Phrases.{argument_phrases, arm_phrases, branch_phrases, designator_phrases, expr_phrases, if_there, phrases_in, phrases_of, same, step_phrases, stmt_phrases, total}
use Rattle.dbpl_core.specs.declared.argument_of.CoreArgumentOf.{CoreArgumentOf}
use Rattle.dbpl_core.specs.declared.argument_of.CoreArgumentOf.TheVariants as arguments
use Rattle.dbpl_core.specs.declared.arm_of.CoreArmOf.{CoreArmOf}
use Rattle.dbpl_core.specs.declared.branch_of.CoreBranchOf.{CoreBranchOf}
use Rattle.dbpl_core.specs.declared.expr.CoreExpr.{CoreExpr, CoreExpr-F, fold-roll-CoreExpr, fold_out-CoreExpr, map-CoreExpr, out-CoreExpr, roll-CoreExpr}
use Rattle.dbpl_core.specs.declared.expr.CoreExpr.TheOpen as exprs
use Rattle.dbpl_core.specs.declared.expr.CoreExpr.TheShapes as shapes
use Rattle.dbpl_core.specs.declared.step_of.CoreStepOf.{CoreStepOf}
use Rattle.dbpl_core.specs.declared.step_of.CoreStepOf.TheVariants as steps
use Rattle.dbpl_core.specs.declared.stmt.CoreStmtOf.{CoreStmtOf, CoreStmtOf-F, fold-roll-CoreStmtOf, fold_out-CoreStmtOf, map-CoreStmtOf, out-CoreStmtOf, roll-CoreStmtOf}
use Rattle.dbpl_core.specs.declared.stmt.CoreStmtOf.TheOpen as stmts
use Rattle.dbpl_core.specs.declared.stmt.CoreStmtOf.TheShapes as stmt_shapes
use Rattle.dbpl_value.specs.declared.range.Range.{Range}

total-map :
    {A B : Type 0} (f : B → ℕ) (g : A → B) (h : A → ℕ) → ((x : A) → f (g x) ≡ h x) → (xs : List A) →
    total f (map g xs) ≡ total h xs
total-map f g h e [] = refl
total-map f g h e (x ∷ xs) = λ i. e x i + total-map f g h e xs i

-- ---- expressions

-- a map of steps that counts the phrases of each index, and leaves all else
record CountsSteps (m : CoreStepOf CoreExpr → CoreStepOf ℕ) : Type 0 where
  field_step : (number : ℕ) → m (steps.Field number) ≡ steps.Field number
  index_step :
      (place : Place) (range : Range) (index : CoreExpr) →
      m (steps.Index place range index) ≡ steps.Index place range (phrases_of index)

step-map :
    (m : CoreStepOf CoreExpr → CoreStepOf ℕ) → CountsSteps m → (step : CoreStepOf CoreExpr) →
    step_phrases same (m step) ≡ step_phrases phrases_of step
step-map m counts (steps.Field number) = λ i. step_phrases same (counts.field_step number i)
step-map m counts (steps.Index place range index) = λ i. step_phrases same (counts.index_step place range index i)

steps-map :
    (m : CoreStepOf CoreExpr → CoreStepOf ℕ) → CountsSteps m → (taken : List (CoreStepOf CoreExpr)) →
    total (step_phrases same) (map m taken) ≡ total (step_phrases phrases_of) taken
steps-map m counts taken = total-map (step_phrases same) m (step_phrases phrases_of) (step-map m counts) taken

counts-read : CountsSteps ((shapes.former-CoreExpr-Read-0-at-7).map CoreExpr ℕ phrases_of)
counts-read = record { field_step = λ number. refl; index_step = λ place range index. refl }

counts-given : CountsSteps ((shapes.former-CoreExpr-Call-0-at-11).map CoreExpr ℕ phrases_of)
counts-given = record { field_step = λ number. refl; index_step = λ place range index. refl }

argument-map :
    (given : CoreArgumentOf CoreExpr) →
    argument_phrases same ((shapes.former-CoreExpr-Call-0-at-14).map CoreExpr ℕ phrases_of given)
    ≡ argument_phrases phrases_of given
argument-map (arguments.Value e) = refl
argument-map (arguments.Variable d) =
    λ i. 1 + steps-map ((shapes.former-CoreExpr-Call-0-at-11).map CoreExpr ℕ phrases_of) counts-given d.steps i

expr_phrases-map :
    (x : CoreExpr-F CoreExpr) → expr_phrases same (map-CoreExpr CoreExpr ℕ phrases_of x) ≡ expr_phrases phrases_of x
expr_phrases-map (exprs.Number place n) = refl
expr_phrases-map (exprs.Text place kind text) = refl
expr_phrases-map (exprs.Read d kind) =
    λ i. 1 + steps-map ((shapes.former-CoreExpr-Read-0-at-7).map CoreExpr ℕ phrases_of) counts-read d.steps i
expr_phrases-map (exprs.Fitted place kind e) = refl
expr_phrases-map (exprs.Signed place sign host e) = refl
expr_phrases-map (exprs.Arithmetic place at operator host left right) = refl
expr_phrases-map (exprs.Compared place at relation comparison left right) = refl
expr_phrases-map (exprs.Logical place operator left right) = refl
expr_phrases-map (exprs.Not place e) = refl
expr_phrases-map (exprs.Call call kind) =
    λ i. 1 +
    total-map (argument_phrases same) ((shapes.former-CoreExpr-Call-0-at-14).map CoreExpr ℕ phrases_of)
    (argument_phrases phrases_of) argument-map call.arguments i
expr_phrases-map (exprs.Standard place which e) = refl
expr_phrases-map (exprs.Packed place kind parts) =
    λ i. 1 + total-map same phrases_of phrases_of (λ e. refl) parts i

pub phrases_of-out : (e : CoreExpr) → phrases_of e ≡ expr_phrases phrases_of (out-CoreExpr e)
phrases_of-out e = fold_out-CoreExpr ℕ (expr_phrases same) e ∙ expr_phrases-map (out-CoreExpr e)

pub phrases_of-roll : (x : CoreExpr-F CoreExpr) → phrases_of (roll-CoreExpr x) ≡ expr_phrases phrases_of x
phrases_of-roll x = fold-roll-CoreExpr ℕ (expr_phrases same) x ∙ expr_phrases-map x

-- ---- statements

abbrev Stmt : Type 0
Stmt = CoreStmtOf CoreExpr

body-map : (body : List Stmt) → total same (map phrases_in body) ≡ total phrases_in body
body-map body = total-map same phrases_in phrases_in (λ s. refl) body

arms-map :
    (arms : List (CoreArmOf CoreExpr Stmt)) →
    total (arm_phrases same)
    (map (λ arm. record { condition = arm.condition; statements = map phrases_in arm.statements }) arms)
    ≡ total (arm_phrases phrases_in) arms
arms-map arms =
    total-map (arm_phrases same)
    (λ (arm : CoreArmOf CoreExpr Stmt). record { condition = arm.condition; statements = map phrases_in arm.statements })
    (arm_phrases phrases_in) (λ arm i. phrases_of arm.condition + body-map arm.statements i) arms

branches-map :
    (branches : List (CoreBranchOf Stmt)) →
    total (branch_phrases same)
    (map (λ branch. record { labels = branch.labels; statements = map phrases_in branch.statements }) branches)
    ≡ total (branch_phrases phrases_in) branches
branches-map branches =
    total-map (branch_phrases same)
    (λ (branch : CoreBranchOf Stmt). record { labels = branch.labels; statements = map phrases_in branch.statements })
    (branch_phrases phrases_in) (λ branch. body-map branch.statements) branches

else-map :
    (otherwise : Option (List Stmt)) →
    if_there (total same) ((stmt_shapes.former-CoreStmtOf-If-2 CoreExpr).map Stmt ℕ phrases_in otherwise)
    ≡ if_there (total phrases_in) otherwise
else-map None = refl
else-map (Some body) = body-map body

stmt_phrases-map :
    (x : CoreStmtOf-F CoreExpr Stmt) →
    stmt_phrases same (map-CoreStmtOf CoreExpr Stmt ℕ phrases_in x) ≡ stmt_phrases phrases_in x
stmt_phrases-map (stmts.Empty place) = refl
stmt_phrases-map (stmts.Exit place) = refl
stmt_phrases-map (stmts.Halt place) = refl
stmt_phrases-map (stmts.Assign at designator e) = refl
stmt_phrases-map (stmts.Call call) = refl
stmt_phrases-map (stmts.InOut place procedure given) = refl
stmt_phrases-map (stmts.Count place direction designator kind by) = refl
stmt_phrases-map (stmts.If place arms otherwise) = λ i. 1 + (arms-map arms i + else-map otherwise i)
stmt_phrases-map (stmts.Case place e host branches otherwise) =
    λ i. 1 + (phrases_of e + (branches-map branches i + else-map otherwise i))
stmt_phrases-map (stmts.While place e body) = λ i. 1 + (phrases_of e + body-map body i)
stmt_phrases-map (stmts.Repeat place body e) = λ i. 1 + (body-map body i + phrases_of e)
stmt_phrases-map (stmts.Loop place body) = λ i. 1 + body-map body i
stmt_phrases-map (stmts.Return place e) = refl
stmt_phrases-map (stmts.For place control from to by body) =
    λ i. 1 + (designator_phrases phrases_of control.variable +
    (phrases_of from + (phrases_of to + (if_there (λ n. 1) by + body-map body i))))

pub phrases_in-out : (s : Stmt) → phrases_in s ≡ stmt_phrases phrases_in (out-CoreStmtOf CoreExpr s)
phrases_in-out s =
    fold_out-CoreStmtOf CoreExpr ℕ (stmt_phrases same) s ∙ stmt_phrases-map (out-CoreStmtOf CoreExpr s)

pub phrases_in-roll : (x : CoreStmtOf-F CoreExpr Stmt) → phrases_in (roll-CoreStmtOf CoreExpr x) ≡ stmt_phrases phrases_in x
phrases_in-roll x = fold-roll-CoreStmtOf CoreExpr ℕ (stmt_phrases same) x ∙ stmt_phrases-map x
