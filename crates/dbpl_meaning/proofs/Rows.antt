-- Each row of the meaning is steady where what stands in it is.
use Rattle.std.proofs.Common.{ℕ, ℤ, pos, Bool, true, false, List, [], ◌∷◌, Option, Some, None, nat_abs, option_map}
use Rattle.std.specs.Int.{int_div_euclid, int_rem_euclid}
use Rattle.dbpl_base.specs.declared.place.Place.{Place}
use Rattle.dbpl_core.specs.declared.argument_of.CoreArgumentOf.{CoreArgumentOf}
use Rattle.dbpl_core.specs.declared.argument_of.CoreArgumentOf.TheVariants as arguments
use Rattle.dbpl_core.specs.declared.arithmetic_operator.ArithmeticOperator.{ArithmeticOperator}
use Rattle.dbpl_core.specs.declared.arithmetic_operator.ArithmeticOperator.TheVariants as operators
use Rattle.dbpl_core.specs.declared.arm_of.CoreArmOf.{CoreArmOf}
use Rattle.dbpl_core.specs.declared.branch_of.CoreBranchOf.{CoreBranchOf}
use Rattle.dbpl_core.specs.declared.call_of.CoreCallOf.{CoreCallOf}
use Rattle.dbpl_core.specs.declared.cell.Cell.{Cell}
use Rattle.dbpl_core.specs.declared.comparison.Comparison.{Comparison}
use Rattle.dbpl_core.specs.declared.comparison.Comparison.TheVariants as comparisons
use Rattle.dbpl_core.specs.declared.control_of.CoreControlOf.{CoreControlOf}
use Rattle.dbpl_core.specs.declared.designator_of.CoreDesignatorOf.{CoreDesignatorOf}
use Rattle.dbpl_core.specs.declared.expr.CoreExpr.{CoreExpr, CoreExpr-F}
use Rattle.dbpl_core.specs.declared.expr.CoreExpr.TheOpen as exprs
use Rattle.dbpl_core.specs.declared.in_out_procedure.InOutProcedure.{InOutProcedure}
use Rattle.dbpl_core.specs.declared.in_out_procedure.InOutProcedure.TheVariants as procedures
use Rattle.dbpl_core.specs.declared.logical_operator.LogicalOperator.{LogicalOperator}
use Rattle.dbpl_core.specs.declared.logical_operator.LogicalOperator.TheVariants as logical
use Rattle.dbpl_core.specs.declared.program.Program.{Program}
use Rattle.dbpl_core.specs.declared.reference.Reference.{Reference}
use Rattle.dbpl_core.specs.declared.relation.Relation.{Relation}
use Rattle.dbpl_core.specs.declared.root.Root.{Root}
use Rattle.dbpl_core.specs.declared.root.Root.TheVariants as roots
use Rattle.dbpl_core.specs.declared.sign.Sign.{Sign}
use Rattle.dbpl_core.specs.declared.sign.Sign.TheVariants as signs
use Rattle.dbpl_core.specs.declared.standard_function.StandardFunction.{StandardFunction}
use Rattle.dbpl_core.specs.declared.standard_function.StandardFunction.TheVariants as standard
use Rattle.dbpl_core.specs.declared.step_of.CoreStepOf.{CoreStepOf}
use Rattle.dbpl_core.specs.declared.step_of.CoreStepOf.TheVariants as steps
use Rattle.dbpl_core.specs.declared.stmt.CoreStmtOf.{CoreStmtOf-F}
use Rattle.dbpl_core.specs.declared.stmt.CoreStmtOf.TheOpen as stmts
use Rattle.dbpl_core.specs.declared.whole_host.WholeHost.{WholeHost}
use Rattle.dbpl_core.specs.declared.whole_host.WholeHost.TheVariants as hosts
use Rattle.dbpl_meaning.proofs.Steady.{IsSteady, steady_bind, steady_block, steady_each, steady_each_with, steady_gives, steady_if, steady_input_left, steady_loops, steady_nothing, steady_number, steady_number_of_type, steady_of_type, steady_writes, steady_assigns, steady_value_at, steady_variable_at, steady_spend, steady_stops, steady_takes_byte, steady_takes_bytes, steady_there, steady_truth, steady_up_to_exit}
use Rattle.dbpl_meaning.specs.Declared.{done_reference}
use Rattle.dbpl_meaning.specs.Expressions.{Calls, Meaning, argument, called, cell_for, decided, given, led_to, meaning_of, packed_level, part, root_of, step_of, text_value, value_level}
use Rattle.dbpl_meaning.specs.InOut.{Given, Referred, Valued, performs, reads_into, reads_number}
use Rattle.dbpl_meaning.specs.Numbers.{compared, divided, exact, fitted, in_host, reckoned, signed, standard_number, within}
use Rattle.dbpl_meaning.specs.Reading.{front_of, number_found}
use Rattle.dbpl_meaning.specs.State.{Doing}
use Rattle.dbpl_meaning.specs.Statements.{amount, condition, control_gets, counted, does_level, first_labelled, first_true, is_constant, is_labelled, number_in_host, number_of_case, or_else, returned, round, round_until, round_with, row, without_result}
use Rattle.dbpl_meaning.specs.Words.{traps}
use Rattle.dbpl_value.specs.declared.db_type.DbType.{DbType, DbType-F, out-DbType}
use Rattle.dbpl_value.specs.declared.db_type.DbType.TheOpen as kinds
use Rattle.dbpl_value.specs.declared.db_type.DbType.TheVariants as types
use Rattle.dbpl_value.specs.declared.field.Field.{Field}
use Rattle.dbpl_value.specs.declared.param.Param.{Param}
use Rattle.dbpl_value.specs.declared.range.Range.{Range}
use Rattle.dbpl_value.specs.declared.value.Value.{Value}
use Rattle.dbpl_value.specs.declared.value.Value.TheVariants as value

-- ---- numbers

steady_traps : {A : Type 0} (kind : ℕ) (place : Place) → IsSteady (traps {A = A} kind place)
steady_traps kind place = steady_stops _

steady_within : (range : Range) (kind : ℕ) (place : Place) (n : ℤ) → IsSteady (within range kind place n)
steady_within range kind place n = steady_if _ _ _ (steady_gives n) (steady_stops _)

steady_fitted : (kind : DbType) (place : Place) (n : ℤ) → IsSteady (fitted kind place n)
steady_fitted kind place n = steady_bind _ _ (steady_there _) (λ range. steady_within range 3 place n)

steady_exact : (n : ℤ) → IsSteady (exact n)
steady_exact n = steady_if _ _ _ (steady_gives n) (steady_stops _)

steady_in_host : (host : Option WholeHost) (place : Place) (n : ℤ) → IsSteady (in_host host place n)
steady_in_host None place n = steady_exact n
steady_in_host (Some host) place n = steady_bind _ _ (steady_there _) (λ range. steady_within range 1 place n)

steady_signed : (sign : Sign) (host : Option WholeHost) (place : Place) (n : ℤ) → IsSteady (signed sign host place n)
steady_signed signs.Plus host place n = steady_gives n
steady_signed signs.Minus host place n = steady_in_host host place _

steady_divided : (part : ℤ → ℤ → ℤ) (at : Place) (n divisor : ℤ) → IsSteady (divided part at n divisor)
steady_divided part at n divisor = steady_if _ _ _ (steady_stops _) (steady_gives _)

steady_reckoned : (operator : ArithmeticOperator) (at : Place) (n m : ℤ) → IsSteady (reckoned operator at n m)
steady_reckoned operators.Plus at n m = steady_gives _
steady_reckoned operators.Minus at n m = steady_gives _
steady_reckoned operators.Times at n m = steady_gives _
steady_reckoned operators.Div at n m = steady_divided int_div_euclid at n m
steady_reckoned operators.Mod at n m = steady_divided int_rem_euclid at n m

steady_compared : (comparison : Comparison) (relation : Relation) (v w : Value) → IsSteady (compared comparison relation v w)
steady_compared comparisons.Numbers relation v w =
    steady_bind _ _ (steady_number v) (λ n. steady_bind _ _ (steady_number w) (λ m. steady_gives _))
steady_compared comparisons.Values relation v w = steady_gives _

steady_standard : (which : StandardFunction) (place : Place) (v : Value) → IsSteady (standard_number which place v)
steady_standard standard.Abs place v = steady_bind _ _ (steady_number_of_type _ v) (λ n. steady_in_host (Some hosts.Integer) place (pos (nat_abs n)))
steady_standard standard.Odd place v = steady_bind _ _ (steady_number v) (λ n. steady_gives _)
steady_standard standard.Cap place v = steady_bind _ _ (steady_number_of_type _ v) (λ n. steady_gives _)
steady_standard standard.Chr place v = steady_bind _ _ (steady_number v) (λ n. steady_fitted _ place n)
steady_standard standard.Ord place v = steady_number v
steady_standard (standard.Val kind) place v = steady_bind _ _ (steady_number v) (λ n. steady_fitted kind place n)

-- ---- expressions

steady_text : (kind : Option DbType) (bytes : List ℕ) → IsSteady (text_value kind bytes)
steady_text None bytes = steady_gives _
steady_text (Some kind) bytes = steady_of_type kind _

steady_packed : (level : DbType-F DbType Field) (parts : List Value) → IsSteady (packed_level level parts)
steady_packed (kinds.Arr index element) parts = steady_gives _
steady_packed (kinds.Rec fields) parts = steady_gives _
steady_packed _ parts = steady_stops _

steady_root : (program : Program) (root : Root) → IsSteady (root_of program root)
steady_root program (roots.Global owner name) = steady_bind _ _ (steady_there _) (λ number. steady_gives _)
steady_root program (roots.Frame slot) = steady_variable_at slot

steady_cell : (kind : DbType) (by_ref : Bool) (got : Given) → IsSteady (cell_for kind by_ref got)
steady_cell kind false (Valued v) = steady_bind _ _ (steady_of_type kind v) (λ checked. steady_gives _)
steady_cell kind true (Referred reference) = steady_gives _
steady_cell kind false (Referred reference) = steady_stops _
steady_cell kind true (Valued v) = steady_stops _

steady_decided : (operator : LogicalOperator) (left : Bool) (right : Doing Value) → IsSteady right → IsSteady (decided operator left right)
steady_decided logical.And left right steady = steady_if left _ _ steady (steady_gives _)
steady_decided logical.Or left right steady = steady_if left _ _ (steady_gives _) steady

-- the calls that may begin are steady
pub record AreSteady (calls : Calls) : Type 0 where
  pub routine : (place : Place) (owner name : List ℕ) (cells : List Cell) → IsSteady (calls.routine place owner name cells)
  pub in_out : (place : Place) (doing : Doing (Unit {0})) → IsSteady doing → IsSteady (calls.in_out place doing)

module _ (program : Program) {E : Type 0} (of : E → Meaning) (inner : (e : E) → IsSteady (of e).value) where
  steady_step : (step : CoreStepOf E) → IsSteady (step_of program of step)
  steady_step (steps.Field number) = steady_bind _ _ (steady_spend 1) (λ _. steady_gives _)
  steady_step (steps.Index place range index) =
      steady_bind _ _ (steady_spend 1) (λ _.
      steady_bind _ _ (inner index) (λ v.
      steady_bind _ _ (steady_number v) (λ n.
      steady_bind _ _ (steady_within range 4 place n) (λ inside. steady_gives _))))

  pub steady_led_to : (designator : CoreDesignatorOf E) → IsSteady (led_to program of designator)
  steady_led_to designator =
      steady_bind _ _ (steady_spend 1) (λ _.
      steady_bind _ _ (steady_root program designator.root) (λ root.
      steady_bind _ _ (steady_each _ steady_step designator.steps) (λ path. steady_gives _)))

  pub steady_given : (argued : CoreArgumentOf E) → IsSteady (given program of argued)
  steady_given (arguments.Value e) = steady_bind _ _ (inner e) (λ v. steady_gives _)
  steady_given (arguments.Variable designator) = steady_bind _ _ (steady_led_to designator) (λ reference. steady_gives _)

  steady_argument : (argued : CoreArgumentOf E) (param : Param) → IsSteady (argument program of argued param)
  steady_argument argued param = steady_bind _ _ (steady_given argued) (λ got. steady_cell param.kind param.by_ref got)

  pub steady_called : (calls : Calls) → AreSteady calls → (call : CoreCallOf E) → IsSteady (called program of calls call)
  steady_called calls steady call =
      steady_bind _ _ (steady_each_with _ steady_argument call.arguments call.head.params) (λ cells.
      steady.routine call.place call.owner call.head.name cells)

  steady_part : (e : E) (kind : DbType) → IsSteady (part program of e kind)
  steady_part e kind = steady_bind _ _ (inner e) (λ v. steady_of_type kind v)

  -- THE rows of expressions
  pub steady_value : (calls : Calls) → AreSteady calls → (x : CoreExpr-F E) → IsSteady (value_level program of calls x)
  steady_value calls steady (exprs.Number place n) = steady_bind _ _ (steady_spend 1) (λ _. steady_gives _)
  steady_value calls steady (exprs.Text place kind text) = steady_bind _ _ (steady_spend 1) (λ _. steady_text kind text)
  steady_value calls steady (exprs.Read designator kind) =
      steady_bind _ _ (steady_led_to designator) (λ reference. steady_value_at reference)
  steady_value calls steady (exprs.Fitted place kind e) =
      steady_bind _ _ (inner e) (λ v.
      steady_bind _ _ (steady_number v) (λ n.
      steady_bind _ _ (steady_fitted kind place n) (λ fits. steady_gives _)))
  steady_value calls steady (exprs.Signed place sign host e) =
      steady_bind _ _ (steady_spend 1) (λ _.
      steady_bind _ _ (inner e) (λ v.
      steady_bind _ _ (steady_number v) (λ n.
      steady_bind _ _ (steady_signed sign host place n) (λ result. steady_gives _))))
  steady_value calls steady (exprs.Arithmetic place at operator host left right) =
      steady_bind _ _ (steady_spend 1) (λ _.
      steady_bind _ _ (inner left) (λ v.
      steady_bind _ _ (steady_number v) (λ n.
      steady_bind _ _ (inner right) (λ w.
      steady_bind _ _ (steady_number w) (λ m.
      steady_bind _ _ (steady_reckoned operator at n m) (λ exactly.
      steady_bind _ _ (steady_in_host host at exactly) (λ result. steady_gives _)))))))
  steady_value calls steady (exprs.Compared place at relation comparison left right) =
      steady_bind _ _ (steady_spend 1) (λ _.
      steady_bind _ _ (inner left) (λ v.
      steady_bind _ _ (inner right) (λ w.
      steady_bind _ _ (steady_compared comparison relation v w) (λ holds. steady_gives _))))
  steady_value calls steady (exprs.Logical place operator left right) =
      steady_bind _ _ (steady_spend 1) (λ _.
      steady_bind _ _ (inner left) (λ v.
      steady_bind _ _ (steady_truth v) (λ holds. steady_decided operator holds _ (inner right))))
  steady_value calls steady (exprs.Not place e) =
      steady_bind _ _ (steady_spend 1) (λ _.
      steady_bind _ _ (inner e) (λ v.
      steady_bind _ _ (steady_truth v) (λ holds. steady_gives _)))
  steady_value calls steady (exprs.Call call kind) =
      steady_bind _ _ (steady_spend 1) (λ _.
      steady_bind _ _ (steady_called calls steady call) (λ result. steady_there result))
  steady_value calls steady (exprs.Standard place which e) =
      steady_bind _ _ (steady_spend 1) (λ _.
      steady_bind _ _ (inner e) (λ v.
      steady_bind _ _ (steady_standard which place v) (λ result. steady_gives _)))
  steady_value calls steady (exprs.Packed place kind parts) =
      steady_bind _ _ (steady_spend 1) (λ _.
      steady_bind _ _ (steady_each_with _ steady_part parts _) (λ values. steady_packed (out-DbType kind) values))

-- ---- InOut

steady_reads_into : (done variable : Reference) (found : Option ℤ) → IsSteady (reads_into done variable found)
steady_reads_into done variable found = steady_bind _ _ (steady_assigns variable _) (λ _. steady_assigns done _)

steady_reads_number : (done : Reference) (kind : DbType) (signed : Bool) (variable : Reference) → IsSteady (reads_number done kind signed variable)
steady_reads_number done kind signed variable =
    steady_bind _ _ (steady_there _) (λ range.
    steady_bind _ _ steady_input_left (λ input.
    steady_bind _ _ (steady_takes_bytes _) (λ _. steady_reads_into done variable (number_found range (front_of signed input)))))

-- Of what is given to a procedure only that in the rows is done; all else stops.
pub steady_performs : (done : Reference) (procedure : InOutProcedure) (got : List Given) → IsSteady (performs done procedure got)
steady_performs done procedures.Read (Referred variable ∷ []) = steady_bind _ _ steady_takes_byte (λ byte. steady_reads_into done variable (option_map pos byte))
steady_performs done procedures.ReadInt (Referred variable ∷ []) = steady_reads_number done types.Int true variable
steady_performs done procedures.ReadCard (Referred variable ∷ []) = steady_reads_number done types.Card false variable
steady_performs done procedures.Write (Valued v ∷ []) = steady_bind _ _ (steady_number_of_type _ v) (λ n. steady_writes _)
steady_performs done procedures.WriteLn [] = steady_writes _
steady_performs done procedures.WriteString (Valued v ∷ []) = steady_bind _ _ (steady_there _) (λ bytes. steady_writes _)
steady_performs done procedures.WriteInt (Valued v ∷ Valued w ∷ []) =
    steady_bind _ _ (steady_number_of_type _ v) (λ n. steady_bind _ _ (steady_number_of_type _ w) (λ width. steady_writes _))
steady_performs done procedures.WriteCard (Valued v ∷ Valued w ∷ []) =
    steady_bind _ _ (steady_number_of_type _ v) (λ n. steady_bind _ _ (steady_number_of_type _ w) (λ width. steady_writes _))
steady_performs done procedure _ = steady_stops _

-- ---- statements

steady_labelled : (n : ℤ) (labels : List Range) → IsSteady (is_labelled n labels)
steady_labelled n [] = steady_gives _
steady_labelled n (label ∷ labels) =
    steady_bind _ _ (steady_spend 1) (λ _. steady_if _ _ _ (steady_gives _) (steady_labelled n labels))

module _ (program : Program) (calls : Calls) (steady : AreSteady calls)
    (inner : (e : CoreExpr) → IsSteady (meaning_of program calls e).value) where
  pub steady_condition : (e : CoreExpr) → IsSteady (condition program calls e)
  steady_condition e = steady_bind _ _ (inner e) (λ v. steady_truth v)

  steady_number_in_host : (host : DbType) (e : CoreExpr) → IsSteady (number_in_host program calls host e)
  steady_number_in_host host e = steady_bind _ _ (inner e) (λ v. steady_number_of_type host v)

  steady_number_of_case : (host : DbType) (e : CoreExpr) → IsSteady (number_of_case program calls host e)
  steady_number_of_case host e =
      steady_bind _ _ (inner e) (λ v. steady_if (is_constant e) _ _ (steady_number v) (steady_number_of_type host v))

  steady_amount : (e : Option CoreExpr) → IsSteady (amount program calls e)
  steady_amount None = steady_gives _
  steady_amount (Some e) = steady_bind _ _ (inner e) (λ v. steady_number v)

  steady_returned : (e : Option CoreExpr) → IsSteady (returned program calls e)
  steady_returned None = steady_gives _
  steady_returned (Some e) = steady_bind _ _ (inner e) (λ v. steady_gives _)

  steady_without_result : (result : Option Value) → IsSteady (without_result result)
  steady_without_result None = steady_nothing
  steady_without_result (Some v) = steady_stops _

  steady_control : (control : CoreControlOf CoreExpr) (n : ℤ) → IsSteady (control_gets program calls control n)
  steady_control control n =
      steady_bind _ _ (steady_led_to program _ inner control.variable) (λ reference.
      steady_bind _ _ (steady_fitted control.kind control.variable.place n) (λ fits. steady_assigns reference _))

  module _ {S : Type 0} (does : S → Doing (Unit {0})) (each : (s : S) → IsSteady (does s)) where
    steady_or_else : (otherwise : Doing (Unit {0})) (body : Option (List S)) → IsSteady otherwise → IsSteady (or_else does otherwise body)
    steady_or_else otherwise None other = other
    steady_or_else otherwise (Some statements) other = steady_block does each statements

    steady_first_true :
        (arms : List (CoreArmOf CoreExpr S)) (otherwise : Doing (Unit {0})) → IsSteady otherwise →
        IsSteady (first_true program calls does arms otherwise)
    steady_first_true [] otherwise other = other
    steady_first_true (arm ∷ arms) otherwise other =
        steady_bind _ _ (steady_condition arm.condition) (λ holds.
        steady_if holds _ _ (steady_block does each arm.statements) (steady_first_true arms otherwise other))

    steady_first_labelled :
        (n : ℤ) (branches : List (CoreBranchOf S)) (otherwise : Doing (Unit {0})) → IsSteady otherwise →
        IsSteady (first_labelled does n branches otherwise)
    steady_first_labelled n [] otherwise other = other
    steady_first_labelled n (branch ∷ branches) otherwise other =
        steady_bind _ _ (steady_labelled n branch.labels) (λ has.
        steady_if has _ _ (steady_block does each branch.statements) (steady_first_labelled n branches otherwise other))

    pub steady_round : (body : List S) (before : Unit {0}) → IsSteady (round does body before)
    steady_round body before = steady_block does each body

    pub steady_round_until : (body : List S) (e : CoreExpr) (before : Bool) → IsSteady (round_until program calls does body e before)
    steady_round_until body e before =
        steady_bind _ _ (steady_block does each body) (λ _.
        steady_bind _ _ (steady_condition e) (λ ends. steady_gives _))

    pub steady_round_with :
        (control : CoreControlOf CoreExpr) (by : ℤ) (body : List S) (n : ℤ) → IsSteady (round_with program calls does control by body n)
    steady_round_with control by body n =
        steady_bind _ _ (steady_control control n) (λ _.
        steady_bind _ _ (steady_block does each body) (λ _. steady_gives _))

    -- THE rows of statements
    steady_row : (x : CoreStmtOf-F CoreExpr S) → IsSteady (row program calls does x)
    steady_row (stmts.Empty place) = steady_nothing
    steady_row (stmts.Exit place) = steady_stops _
    steady_row (stmts.Halt place) = steady_stops _
    steady_row (stmts.Assign at designator e) =
        steady_bind _ _ (steady_led_to program _ inner designator) (λ reference.
        steady_bind _ _ (inner e) (λ v. steady_assigns reference v))
    steady_row (stmts.Call call) =
        steady_bind _ _ (steady_called program _ inner calls steady call) (λ result. steady_without_result result)
    steady_row (stmts.InOut place procedure given_to) =
        steady_bind _ _ (steady_each _ (steady_given program _ inner) given_to) (λ got.
        steady.in_out place _ (steady_performs (done_reference program) procedure got))
    steady_row (stmts.Count place direction designator kind by) =
        steady_bind _ _ (steady_led_to program _ inner designator) (λ reference.
        steady_bind _ _ (steady_amount by) (λ by.
        steady_bind _ _ (steady_value_at reference) (λ v.
        steady_bind _ _ (steady_number v) (λ n.
        steady_bind _ _ (steady_exact (counted direction n by)) (λ sum.
        steady_bind _ _ (steady_fitted kind place sum) (λ fits. steady_assigns reference (value.Num fits)))))))
    steady_row (stmts.If place arms otherwise) = steady_first_true arms _ (steady_or_else _ otherwise steady_nothing)
    steady_row (stmts.Case place e host branches otherwise) =
        steady_bind _ _ (steady_number_of_case host e) (λ n.
        steady_first_labelled n branches _ (steady_or_else _ otherwise (steady_stops _)))
    steady_row (stmts.While place e body) =
        steady_loops _ _ (λ before. steady_condition e) (steady_round body) (tt {0})
    steady_row (stmts.Repeat place body e) =
        steady_loops _ _ (λ before. steady_gives before) (steady_round_until body e) true
    steady_row (stmts.Loop place body) =
        steady_up_to_exit _ (steady_loops _ _ (λ before. steady_gives true) (steady_round body) (tt {0}))
    steady_row (stmts.Return place e) = steady_bind _ _ (steady_returned e) (λ v. steady_stops _)
    steady_row (stmts.For place control from to by body) =
        steady_bind _ _ (steady_number_in_host _ from) (λ first.
        steady_bind _ _ (steady_number_in_host _ to) (λ last.
        steady_bind _ _ (steady_spend _) (λ _.
        steady_loops _ _ (λ n. steady_gives _) (steady_round_with control _ body) first)))

    pub steady_does : (x : CoreStmtOf-F CoreExpr S) → IsSteady (does_level program calls does x)
    steady_does x = steady_bind _ _ (steady_spend 1) (λ _. steady_row x)
