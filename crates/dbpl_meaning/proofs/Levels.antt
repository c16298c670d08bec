-- One level of an expression or a statement: what it means is its row, with the meanings of the expressions and statements in
-- it.
use Rattle.std.proofs.Common.{◌≡◌, ℕ, ℤ, ◌+ℤ◌, true, not, List, [], ◌∷◌, ◌++◌, Option, Some, None, ap, if◌then◌else◌, map, refl, sym, ◌∙◌}
use Rattle.dbpl_base.specs.declared.place.Place.{Place}
use Rattle.dbpl_core.specs.declared.argument_of.CoreArgumentOf.{CoreArgumentOf}
use Rattle.dbpl_core.specs.declared.argument_of.CoreArgumentOf.TheVariants as arguments
use Rattle.dbpl_core.specs.declared.arm_of.CoreArmOf.{CoreArmOf}
use Rattle.dbpl_core.specs.declared.branch_of.CoreBranchOf.{CoreBranchOf}
use Rattle.dbpl_core.specs.declared.expr.CoreExpr.{CoreExpr, CoreExpr-F, fold-roll-CoreExpr, map-CoreExpr, out-CoreExpr, roll-CoreExpr, roll-out-CoreExpr}
use Rattle.dbpl_core.specs.declared.expr.CoreExpr.TheOpen as exprs
use Rattle.dbpl_core.specs.declared.expr.CoreExpr.TheShapes as shapes
use Rattle.dbpl_core.specs.declared.program.Program.{Program}
use Rattle.dbpl_core.specs.declared.reference.Reference.{Reference}
use Rattle.dbpl_core.specs.declared.root.Root.{Root}
use Rattle.dbpl_core.specs.declared.step_of.CoreStepOf.{CoreStepOf}
use Rattle.dbpl_core.specs.declared.step_of.CoreStepOf.TheVariants as steps
use Rattle.dbpl_core.specs.declared.stmt.CoreStmtOf.{CoreStmtOf, CoreStmtOf-F, fold-roll-CoreStmtOf, map-CoreStmtOf, out-CoreStmtOf, roll-CoreStmtOf, roll-out-CoreStmtOf}
use Rattle.dbpl_core.specs.declared.stmt.CoreStmtOf.TheOpen as stmts
use Rattle.dbpl_core.specs.declared.stmt.CoreStmtOf.TheShapes as stmt_shapes
use Rattle.dbpl_meaning.specs.Expressions as expressions
use Rattle.dbpl_meaning.specs.Expressions.{Calls, Meaning, argument, called, cell_for, given, led_to, meaning_of, packed_level, part, part_kinds, root_of, step_of, value_level, value_of}
use Rattle.dbpl_meaning.specs.InOut.{Referred}
use Rattle.dbpl_meaning.specs.State.{Doing}
use Rattle.dbpl_meaning.specs.Statements as statements
use Rattle.dbpl_meaning.specs.Statements.{carried_host, condition, control_gets, does, does_level, first_labelled, first_true, goes_on_to, is_labelled, number_in_host, number_of_case, one_without, or_else, phrases_of_by, round, round_until, round_with, row}
use Rattle.dbpl_meaning.specs.Words.{◌>>=◌, ◌>>◌, block, each, each_with, gives, loops, nothing, value_at, spend, there, traps, up_to_exit}
use Rattle.dbpl_value.specs.declared.db_type.DbType.{out-DbType}
use Rattle.dbpl_value.specs.declared.param.Param.{Param}
use Rattle.dbpl_value.specs.declared.range.Range.{Range}
use Rattle.dbpl_value.specs.declared.step.Step.{Step}
use Rattle.dbpl_value.specs.declared.value.Value.{Value}

-- ---- lists

each-map :
    {A B C : Type 0} (phrase : B → Doing C) (m : A → B) (other : A → Doing C) → ((a : A) → phrase (m a) ≡ other a) →
    (xs : List A) → each phrase (map m xs) ≡ each other xs
each-map phrase m other e [] = refl
each-map phrase m other e (a ∷ rest) =
    λ i. e a i >>= (λ b. each-map phrase m other e rest i >>= (λ others. gives (b ∷ others)))

each_with-map :
    {A B C D : Type 0} (phrase : B → D → Doing C) (m : A → B) (other : A → D → Doing C) →
    ((a : A) (d : D) → phrase (m a) d ≡ other a d) → (xs : List A) (ds : List D) →
    each_with phrase (map m xs) ds ≡ each_with other xs ds
each_with-map phrase m other e [] [] = refl
each_with-map phrase m other e [] (d ∷ ds) = refl
each_with-map phrase m other e (a ∷ rest) [] = refl
each_with-map phrase m other e (a ∷ rest) (d ∷ ds) =
    λ i. e a d i >>= (λ c. each_with-map phrase m other e rest ds i >>= (λ further. gives (c ∷ further)))

block-map :
    {S T : Type 0} (doing : T → Doing (Unit {0})) (f : S → T) (body : List S) → block doing (map f body) ≡ block (λ s. doing (f s)) body
block-map doing f [] = refl
block-map doing f (s ∷ body) = λ i. doing (f s) >>= (λ _. block-map doing f body i)

-- ---- expressions: other things in place of the expressions in one

module _ (program : Program) (calls : Calls) {E F : Type 0} (of : F → Meaning) (f : E → F) where
  abbrev by : E → Meaning
  by e = of (f e)

  -- a map of steps that changes each index, and leaves all else
  record MapsSteps (m : CoreStepOf E → CoreStepOf F) : Type 0 where
    field_step : (number : ℕ) → m (steps.Field number) ≡ steps.Field number
    index_step :
        (place : Place) (range : Range) (index : E) →
        m (steps.Index place range index) ≡ steps.Index place range (f index)

  step-map : (m : CoreStepOf E → CoreStepOf F) → MapsSteps m → (step : CoreStepOf E) → step_of program of (m step) ≡ step_of program by step
  step-map m maps (steps.Field number) = λ i. step_of program of (maps.field_step number i)
  step-map m maps (steps.Index place range index) = λ i. step_of program of (maps.index_step place range index i)

  maps-read : MapsSteps ((shapes.former-CoreExpr-Read-0-at-7).map E F f)
  maps-read = record { field_step = λ number. refl; index_step = λ place range index. refl }

  maps-given : MapsSteps ((shapes.former-CoreExpr-Call-0-at-11).map E F f)
  maps-given = record { field_step = λ number. refl; index_step = λ place range index. refl }

  abbrev along : Root → Doing (List Step) → Doing Reference
  along root steps = do
    spend 1
    begun ← root_of program root
    path ← steps
    gives (record { root = begun.root; path = begun.path ++ path })

  argument-map :
      (argued : CoreArgumentOf E) (param : Param) →
      argument program of ((shapes.former-CoreExpr-Call-0-at-14).map E F f argued) param ≡ argument program by argued param
  argument-map (arguments.Value e) param = refl
  argument-map (arguments.Variable d) param =
      λ i. (along d.root
      (each-map (step_of program of) ((shapes.former-CoreExpr-Call-0-at-11).map E F f) (step_of program by)
      (step-map ((shapes.former-CoreExpr-Call-0-at-11).map E F f) maps-given) d.steps i) >>=
      (λ reference. gives (Referred reference))) >>= (λ got. cell_for param.kind param.by_ref got)

  pub value-map : (x : CoreExpr-F E) → value_level program of calls (map-CoreExpr E F f x) ≡ value_level program by calls x
  value-map (exprs.Number place n) = refl
  value-map (exprs.Text place kind text) = refl
  value-map (exprs.Read d kind) =
      λ i. along d.root
      (each-map (step_of program of) ((shapes.former-CoreExpr-Read-0-at-7).map E F f) (step_of program by)
      (step-map ((shapes.former-CoreExpr-Read-0-at-7).map E F f) maps-read) d.steps i) >>=
      (λ reference. value_at reference)
  value-map (exprs.Fitted place kind e) = refl
  value-map (exprs.Signed place sign host e) = refl
  value-map (exprs.Arithmetic place at operator host left right) = refl
  value-map (exprs.Compared place at relation comparison left right) = refl
  value-map (exprs.Logical place operator left right) = refl
  value-map (exprs.Not place e) = refl
  value-map (exprs.Call call kind) =
      λ i. spend 1 >>= (λ _.
      (each_with-map (argument program of) ((shapes.former-CoreExpr-Call-0-at-14).map E F f) (argument program by) argument-map
      call.arguments call.head.params i >>= (λ cells. calls.routine call.place call.owner call.head.name cells)) >>=
      (λ result. there result))
  value-map (exprs.Standard place which e) = refl
  value-map (exprs.Packed place kind parts) =
      λ i. spend 1 >>= (λ _. each_with-map (part program of) f (part program by) (λ e kind. refl) parts (part_kinds kind) i >>=
      (λ values. packed_level (out-DbType kind) values))

-- what the phrases of an expression mean, made
pub meaning_of-roll :
    (program : Program) (calls : Calls) (x : CoreExpr-F CoreExpr) →
    meaning_of program calls (roll-CoreExpr x) ≡ record { value = value_level program (meaning_of program calls) calls x }
unfolding meaning_of
meaning_of-roll program calls x =
    fold-roll-CoreExpr Meaning (λ level. record { value = value_level program expressions.its_meaning calls level }) x ∙
    ap (λ (doing : Doing Value). record { value = doing }) (value-map program calls expressions.its_meaning (meaning_of program calls) x)

pub value_of-roll :
    (program : Program) (calls : Calls) (x : CoreExpr-F CoreExpr) →
    value_of program calls (roll-CoreExpr x) ≡ value_level program (meaning_of program calls) calls x
value_of-roll program calls x = ap (λ (meaning : Meaning). meaning.value) (meaning_of-roll program calls x)

-- and opened
pub value_of-out :
    (program : Program) (calls : Calls) (e : CoreExpr) →
    value_of program calls e ≡ value_level program (meaning_of program calls) calls (out-CoreExpr e)
value_of-out program calls e =
    ap (λ (e : CoreExpr). value_of program calls e) (sym (roll-out-CoreExpr e)) ∙ value_of-roll program calls (out-CoreExpr e)

-- ---- statements: other things in place of the statements in one

module _ (program : Program) (calls : Calls) {S T : Type 0} (doing : T → Doing (Unit {0})) (f : S → T) where
  abbrev made : S → Doing (Unit {0})
  made s = doing (f s)

  else-map :
      (otherwise : Doing (Unit {0})) (body : Option (List S)) →
      or_else doing otherwise ((stmt_shapes.former-CoreStmtOf-If-2 CoreExpr).map S T f body)
      ≡ or_else made otherwise body
  else-map otherwise None = refl
  else-map otherwise (Some body) = block-map doing f body

  arms-map :
      (arms : List (CoreArmOf CoreExpr S)) (one other : Doing (Unit {0})) → one ≡ other →
      first_true program calls doing
      (map (λ arm. record { condition = arm.condition; statements = map f arm.statements }) arms) one
      ≡ first_true program calls made arms other
  arms-map [] one other e = e
  arms-map (arm ∷ arms) one other e =
      λ i. condition program calls arm.condition >>= (λ holds.
      if holds then block-map doing f arm.statements i else arms-map arms one other e i)

  branches-map :
      (n : ℤ) (branches : List (CoreBranchOf S)) (one other : Doing (Unit {0})) → one ≡ other →
      first_labelled doing n
      (map (λ branch. record { labels = branch.labels; statements = map f branch.statements }) branches) one
      ≡ first_labelled made n branches other
  branches-map n [] one other e = e
  branches-map n (branch ∷ branches) one other e =
      λ i. is_labelled n branch.labels >>= (λ has.
      if has then block-map doing f branch.statements i else branches-map n branches one other e i)

  row-map : (x : CoreStmtOf-F CoreExpr S) → row program calls doing (map-CoreStmtOf CoreExpr S T f x) ≡ row program calls made x
  row-map (stmts.Empty place) = refl
  row-map (stmts.Exit place) = refl
  row-map (stmts.Halt place) = refl
  row-map (stmts.Assign at designator e) = refl
  row-map (stmts.Call call) = refl
  row-map (stmts.InOut place procedure given_to) = refl
  row-map (stmts.Count place direction designator kind by) = refl
  row-map (stmts.If place arms otherwise) = arms-map arms _ _ (else-map nothing otherwise)
  row-map (stmts.Case place e host branches otherwise) =
      λ i. number_of_case program calls host e >>= (λ n. branches-map n branches _ _ (else-map (traps 5 place) otherwise) i)
  row-map (stmts.While place e body) =
      λ i. loops (λ before. condition program calls e) (λ before. block-map doing f body i) (tt {0})
  row-map (stmts.Repeat place body e) =
      λ i. loops gives
      (λ before. block-map doing f body i >>= (λ _. condition program calls e >>= (λ ends. gives (not ends)))) true
  row-map (stmts.Loop place body) =
      λ i. up_to_exit (loops (λ before. gives true) (λ before. block-map doing f body i) (tt {0}))
  row-map (stmts.Return place e) = refl
  row-map (stmts.For place control from to by body) =
      λ i. number_in_host program calls (carried_host control.host from) from >>= (λ first.
      number_in_host program calls (carried_host control.host to) to >>= (λ last.
      spend (phrases_of_by by) >>= (λ _.
      loops (λ n. gives (goes_on_to last (one_without by) n))
      (λ n. control_gets program calls control n >>= (λ _. block-map doing f body i >>= (λ _. gives (n +ℤ one_without by))))
      first)))

  pub does-map :
      (x : CoreStmtOf-F CoreExpr S) →
      does_level program calls doing (map-CoreStmtOf CoreExpr S T f x) ≡ does_level program calls made x
  does-map x = λ i. spend 1 >>= (λ _. row-map x i)

-- what the phrases of a statement do, made
pub does-roll :
    (program : Program) (calls : Calls) (x : CoreStmtOf-F CoreExpr (CoreStmtOf CoreExpr)) →
    does program calls (roll-CoreStmtOf CoreExpr x) ≡ does_level program calls (does program calls) x
unfolding does
does-roll program calls x =
    fold-roll-CoreStmtOf CoreExpr (Doing (Unit {0})) (does_level program calls statements.its_doing) x ∙
    does-map program calls statements.its_doing (does program calls) x

-- and opened
pub does-out :
    (program : Program) (calls : Calls) (s : CoreStmtOf CoreExpr) →
    does program calls s ≡ does_level program calls (does program calls) (out-CoreStmtOf CoreExpr s)
does-out program calls s =
    ap (λ (s : CoreStmtOf CoreExpr). does program calls s) (sym (roll-out-CoreStmtOf CoreExpr s)) ∙
    does-roll program calls (out-CoreStmtOf CoreExpr s)
