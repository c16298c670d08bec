-- What an expression means: one row for each form. A row reads what stands in it by the field `value` of its meaning, so a
-- further table over the same forms is a further field. Roots and steps that come with sets and persistent variables are
-- rows of `root_of` and `step_of`.
use Rattle.std.specs.Prelude.{ℕ, ◌-◌, pos, ◌-ℤ◌, nat_abs, Bool, false, true, not, if◌then◌else◌, List, [], ◌++◌, map, length, replicate, Option, Some, None}
use Rattle.dbpl_core.specs.declared.argument_of.CoreArgumentOf.{CoreArgumentOf}
use Rattle.dbpl_core.specs.declared.argument_of.CoreArgumentOf.TheVariants as arguments
use Rattle.dbpl_core.specs.declared.call_of.CoreCallOf.{CoreCallOf}
use Rattle.dbpl_core.specs.declared.cell.Cell.{Cell}
use Rattle.dbpl_core.specs.declared.cell.Cell.TheVariants as cell
use Rattle.dbpl_core.specs.declared.designator_of.CoreDesignatorOf.{CoreDesignatorOf}
use Rattle.dbpl_core.specs.declared.expr.CoreExpr.{CoreExpr, CoreExpr-F, fold-CoreExpr}
use Rattle.dbpl_core.specs.declared.expr.CoreExpr.TheOpen as exprs
use Rattle.dbpl_core.specs.declared.logical_operator.LogicalOperator.{LogicalOperator}
use Rattle.dbpl_core.specs.declared.logical_operator.LogicalOperator.TheVariants as logical
use Rattle.dbpl_core.specs.declared.program.Program.{Program}
use Rattle.dbpl_core.specs.declared.reference.Reference.{Reference}
use Rattle.dbpl_core.specs.declared.root.Root.{Root}
use Rattle.dbpl_core.specs.declared.root.Root.TheVariants as roots
use Rattle.dbpl_core.specs.declared.step_of.CoreStepOf.{CoreStepOf}
use Rattle.dbpl_core.specs.declared.step_of.CoreStepOf.TheVariants as steps
use Rattle.dbpl_base.specs.declared.place.Place.{Place}
use Rattle.dbpl_meaning.specs.Declared.{global_number, global_reference}
use Rattle.dbpl_meaning.specs.InOut.{Given, Referred, Valued}
use Rattle.dbpl_meaning.specs.Numbers.{compared, fitted, in_host, number_of_bool, reckoned, signed, standard_number, within}
use Rattle.dbpl_meaning.specs.State.{Doing, Wrong}
use Rattle.dbpl_meaning.specs.Words.{◌>>=◌, ◌>>◌, each, each_with, gives, number, of_type, value_at, variable_at, spend, stops, there, truth}
use Rattle.dbpl_value.specs.Types.{count_of}
use Rattle.dbpl_value.specs.declared.db_type.DbType.{DbType, DbType-F, out-DbType}
use Rattle.dbpl_value.specs.declared.db_type.DbType.TheOpen as kinds
use Rattle.dbpl_value.specs.declared.field.Field.{Field}
use Rattle.dbpl_value.specs.declared.param.Param.{Param}
use Rattle.dbpl_value.specs.declared.step.Step.{Step}
use Rattle.dbpl_value.specs.declared.step.Step.TheVariants as step
use Rattle.dbpl_value.specs.declared.value.Value.{Value}
use Rattle.dbpl_value.specs.declared.value.Value.TheVariants as value

-- The calls that a phrase may begin: of the routine with this module and name, at this place and with these cells for its
-- parameters; and of a procedure of InOut, which does this.
pub record Calls : Type 0 where
  pub routine : Place → List ℕ → List ℕ → List Cell → Doing (Option Value)
  pub in_out : Place → Doing (Unit {0}) → Doing (Unit {0})

-- What an expression means, field by field.
pub record Meaning : Type 0 where
  pub value : Doing Value

-- ---- texts and aggregates

abbrev pub characters : List ℕ → List Value
characters bytes = map (λ byte. value.Num (pos byte)) bytes

abbrev pub index_count_level : {Y : Type 0} → DbType-F DbType Y → ℕ
index_count_level (kinds.Arr index element) = count_of index
index_count_level _ = 0

-- how many elements an array type has
abbrev pub index_count : DbType → ℕ
index_count kind = index_count_level (out-DbType kind)

-- the bytes as an array, filled with 0C to its length; where it is only printed, the bytes alone
abbrev pub text_value : Option DbType → List ℕ → Doing Value
text_value None bytes = gives (value.Arr (characters bytes))
text_value (Some kind) bytes =
    of_type kind (value.Arr (characters (bytes ++ replicate (index_count kind - length bytes) 0)))

-- the value of an aggregate that has these parts
abbrev pub packed_level : DbType-F DbType Field → List Value → Doing Value
packed_level (kinds.Arr index element) parts = gives (value.Arr parts)
packed_level (kinds.Rec fields) parts = gives (value.Rec parts)
packed_level _ parts = stops Wrong

abbrev pub part_kinds_level : DbType-F DbType Field → List DbType
part_kinds_level (kinds.Arr index element) = replicate (count_of index) element
part_kinds_level (kinds.Rec fields) = map (λ field. field.kind) fields
part_kinds_level _ = []

-- the types of the parts of an aggregate
abbrev pub part_kinds : DbType → List DbType
part_kinds kind = part_kinds_level (out-DbType kind)

-- ---- arguments and conditions

-- what a parameter gets
abbrev pub cell_for : DbType → Bool → Given → Doing Cell
cell_for kind false (Valued v) = do
  checked ← of_type kind v
  gives (cell.Holds kind checked)
cell_for kind true (Referred reference) = gives (cell.Refers reference)
cell_for kind by_ref _ = stops Wrong

-- the right side, where the left one doesn't decide
abbrev pub decided : LogicalOperator → Bool → Doing Value → Doing Value
decided logical.And left right = if left then right else gives (number_of_bool false)
decided logical.Or left right = if left then gives (number_of_bool true) else right

-- ---- the rows

module _ (program : Program) where
  -- where a designator begins: a module variable; or a parameter or local variable, which may stand for another variable
  abbrev pub root_of : Root → Doing Reference
  root_of (roots.Global owner name) = do
    number ← there (global_number program owner name)
    gives (global_reference number)
  root_of (roots.Frame slot) = variable_at slot

  module _ {E : Type 0} (of : E → Meaning) where
    abbrev pub step_of : CoreStepOf E → Doing Step
    step_of (steps.Field number) = do
      spend 1
      gives (step.Field number)
    step_of (steps.Index place range index) = do
      spend 1
      v ← (of index).value
      n ← number v
      inside ← within range 4 place n
      gives (step.Index (nat_abs (inside -ℤ range.least)))

    -- where a designator leads: its root, and then its steps from left to right
    abbrev pub led_to : CoreDesignatorOf E → Doing Reference
    led_to designator = do
      spend 1
      root ← root_of designator.root
      path ← each step_of designator.steps
      gives (record { root = root.root; path = root.path ++ path })

    abbrev pub given : CoreArgumentOf E → Doing Given
    given (arguments.Value e) = do
      v ← (of e).value
      gives (Valued v)
    given (arguments.Variable designator) = do
      reference ← led_to designator
      gives (Referred reference)

    abbrev pub argument : CoreArgumentOf E → Param → Doing Cell
    argument argued param = do
      got ← given argued
      cell_for param.kind param.by_ref got

    -- a call, with the result of a function: the arguments from left to right, and then the routine
    abbrev pub called : Calls → CoreCallOf E → Doing (Option Value)
    called calls call = do
      cells ← each_with argument call.arguments call.head.params
      calls.routine call.place call.owner call.head.name cells

    abbrev pub part : E → DbType → Doing Value
    part e kind = do
      v ← (of e).value
      of_type kind v

    module _ (calls : Calls) where
      -- THE rows
      abbrev pub value_level : CoreExpr-F E → Doing Value
      value_level (exprs.Number place n) = do
        spend 1
        gives (value.Num n)
      value_level (exprs.Text place kind text) = do
        spend 1
        text_value kind text
      value_level (exprs.Read designator kind) = do
        reference ← led_to designator
        value_at reference
      value_level (exprs.Fitted place kind e) = do
        v ← (of e).value
        n ← number v
        fits ← fitted kind place n
        gives (value.Num fits)
      value_level (exprs.Signed place sign host e) = do
        spend 1
        v ← (of e).value
        n ← number v
        result ← signed sign host place n
        gives (value.Num result)
      value_level (exprs.Arithmetic place at operator host left right) = do
        spend 1
        v ← (of left).value
        n ← number v
        w ← (of right).value
        m ← number w
        exactly ← reckoned operator at n m
        result ← in_host host at exactly
        gives (value.Num result)
      value_level (exprs.Compared place at relation comparison left right) = do
        spend 1
        v ← (of left).value
        w ← (of right).value
        holds ← compared comparison relation v w
        gives (number_of_bool holds)
      value_level (exprs.Logical place operator left right) = do
        spend 1
        v ← (of left).value
        holds ← truth v
        decided operator holds (of right).value
      value_level (exprs.Not place e) = do
        spend 1
        v ← (of e).value
        holds ← truth v
        gives (number_of_bool (not holds))
      value_level (exprs.Call call kind) = do
        spend 1
        result ← called calls call
        there result
      value_level (exprs.Standard place which e) = do
        spend 1
        v ← (of e).value
        result ← standard_number which place v
        gives (value.Num result)
      value_level (exprs.Packed place kind parts) = do
        spend 1
        values ← each_with part parts (part_kinds kind)
        packed_level (out-DbType kind) values

abbrev pub its_meaning : Meaning → Meaning
its_meaning meaning = meaning

module _ (program : Program) (calls : Calls) where
  -- THE meaning of an expression
  unfoldable pub meaning_of : CoreExpr → Meaning
  meaning_of = fold-CoreExpr Meaning (λ level. record { value = value_level program its_meaning calls level })

  -- THE value of an expression
  abbrev pub value_of : CoreExpr → Doing Value
  value_of e = (meaning_of e).value
