-- What a statement means: one row for each form. A statement is one work as it begins, also where it stops later; this stands
-- in front of all rows. ABORT, FOR EACH and the operators on relations are rows more.
use Rattle.std.specs.Prelude.{ℕ, ℤ, pos, negsuc, ◌+ℤ◌, ◌-ℤ◌, int_le, Bool, false, true, not, if◌then◌else◌, List, [], ◌∷◌, Option, Some, None}
use Rattle.dbpl_core.specs.declared.arm_of.CoreArmOf.{CoreArmOf}
use Rattle.dbpl_core.specs.declared.branch_of.CoreBranchOf.{CoreBranchOf}
use Rattle.dbpl_core.specs.declared.control_of.CoreControlOf.{CoreControlOf}
use Rattle.dbpl_core.specs.declared.direction.Direction.{Direction}
use Rattle.dbpl_core.specs.declared.direction.Direction.TheVariants as directions
use Rattle.dbpl_core.specs.declared.expr.CoreExpr.{CoreExpr, CoreExpr-F, out-CoreExpr}
use Rattle.dbpl_core.specs.declared.expr.CoreExpr.TheOpen as exprs
use Rattle.dbpl_core.specs.declared.program.Program.{Program}
use Rattle.dbpl_core.specs.declared.standard_function.StandardFunction.{StandardFunction}
use Rattle.dbpl_core.specs.declared.standard_function.StandardFunction.TheVariants as standard
use Rattle.dbpl_core.specs.declared.stmt.CoreStmtOf.{CoreStmtOf, CoreStmtOf-F, fold-CoreStmtOf}
use Rattle.dbpl_core.specs.declared.stmt.CoreStmtOf.TheOpen as stmts
use Rattle.dbpl_core.specs.declared.whole_host.WholeHost.{WholeHost}
use Rattle.dbpl_meaning.specs.Declared.{done_reference}
use Rattle.dbpl_meaning.specs.Expressions.{Calls, Meaning, called, given, led_to, meaning_of}
use Rattle.dbpl_meaning.specs.InOut.{performs}
use Rattle.dbpl_meaning.specs.Numbers.{exact, fitted, host_type}
use Rattle.dbpl_meaning.specs.State.{Doing, Ended, Exiting, Returning, Wrong}
use Rattle.dbpl_meaning.specs.Words.{◌>>=◌, ◌>>◌, block, each, gives, loops, nothing, number, number_of_type, assigns, value_at, spend, stops, traps, truth, up_to_exit}
use Rattle.dbpl_value.specs.Types.{is_in}
use Rattle.dbpl_value.specs.declared.db_type.DbType.{DbType, DbType-F, out-DbType}
use Rattle.dbpl_value.specs.declared.db_type.DbType.TheOpen as kinds
use Rattle.dbpl_value.specs.declared.db_type.DbType.TheVariants as types
use Rattle.dbpl_value.specs.declared.range.Range.{Range}
use Rattle.dbpl_value.specs.declared.value.Value.{Value}
use Rattle.dbpl_value.specs.declared.value.Value.TheVariants as value

-- ---- the hosts of the bounds of FOR

abbrev pub host_level : {Y : Type 0} → DbType → DbType-F DbType Y → DbType
host_level kind (kinds.Sub host least greatest) = host
host_level kind _ = kind

-- the type of the bounds of a subrange, and any other type itself
abbrev pub host_of : DbType → DbType
host_of kind = host_level kind (out-DbType kind)

abbrev pub whole_host : DbType → Option WholeHost → DbType
whole_host constant None = constant
whole_host constant (Some host) = host_type host

abbrev pub standard_host : StandardFunction → DbType
standard_host standard.Abs = types.Int
standard_host standard.Odd = types.Bool
standard_host standard.Cap = types.Char
standard_host standard.Chr = types.Char
standard_host standard.Ord = types.Card
standard_host (standard.Val kind) = host_of kind

abbrev pub carried_level : {E : Type 0} → DbType → CoreExpr-F E → DbType
carried_level constant (exprs.Number place n) = constant
carried_level constant (exprs.Text place kind text) = constant
carried_level constant (exprs.Read designator kind) = host_of kind
carried_level constant (exprs.Fitted place kind e) = host_of kind
carried_level constant (exprs.Signed place sign host e) = whole_host constant host
carried_level constant (exprs.Arithmetic place at operator host left right) = whole_host constant host
carried_level constant (exprs.Compared place at relation comparison left right) = types.Bool
carried_level constant (exprs.Logical place operator left right) = types.Bool
carried_level constant (exprs.Not place e) = types.Bool
carried_level constant (exprs.Call call kind) = host_of kind
carried_level constant (exprs.Standard place which e) = standard_host which
carried_level constant (exprs.Packed place kind parts) = kind

-- the host that the tree carries for an expression, which for a constant is this one
abbrev pub carried_host : DbType → CoreExpr → DbType
carried_host constant e = carried_level constant (out-CoreExpr e)

abbrev pub is_constant_level : {E : Type 0} → CoreExpr-F E → Bool
is_constant_level (exprs.Number place n) = true
is_constant_level (exprs.Signed place sign None e) = true
is_constant_level (exprs.Arithmetic place at operator None left right) = true
is_constant_level _ = false

-- whether it is a constant, which is exact: a whole one is in either host
abbrev pub is_constant : CoreExpr → Bool
is_constant e = is_constant_level (out-CoreExpr e)

-- ---- counting

abbrev pub counted : Direction → ℤ → ℤ → ℤ
counted directions.Up n by = n +ℤ by
counted directions.Down n by = n -ℤ by

-- whether a count by `by` has not passed the last number
abbrev pub goes_on_to : ℤ → ℤ → ℤ → Bool
goes_on_to last (pos by) n = int_le n last
goes_on_to last (negsuc by) n = int_le last n

abbrev pub one_without : Option ℤ → ℤ
one_without None = pos 1
one_without (Some by) = by

-- the constant of BY is a phrase, where it is there
abbrev pub phrases_of_by : Option ℤ → ℕ
phrases_of_by None = 0
phrases_of_by (Some by) = 1

-- ---- labels

-- whether one of the labels has the number; each up to that one is one work
abbrev pub is_labelled : ℤ → List Range → Doing Bool
is_labelled n [] = gives false
is_labelled n (label ∷ labels) = do
  spend 1
  if is_in label n then gives true else is_labelled n labels

-- a procedure gives no result
abbrev pub without_result : Option Value → Doing (Unit {0})
without_result None = nothing
without_result (Some v) = stops Wrong

module _ {S : Type 0} (does : S → Doing (Unit {0})) where
  -- the statements behind ELSE, and else this
  abbrev pub or_else : Doing (Unit {0}) → Option (List S) → Doing (Unit {0})
  or_else otherwise None = otherwise
  or_else otherwise (Some statements) = block does statements

  abbrev pub first_labelled : ℤ → List (CoreBranchOf S) → Doing (Unit {0}) → Doing (Unit {0})
  first_labelled n [] otherwise = otherwise
  first_labelled n (branch ∷ branches) otherwise = do
    has ← is_labelled n branch.labels
    if has then block does branch.statements else first_labelled n branches otherwise

  -- a turn of WHILE or LOOP
  abbrev pub round : List S → Unit {0} → Doing (Unit {0})
  round body before = block does body

module _ (program : Program) (calls : Calls) where
  abbrev pub of : CoreExpr → Meaning
  of = meaning_of program calls

  abbrev pub condition : CoreExpr → Doing Bool
  condition e = do
    v ← (of e).value
    truth v

  -- the number of a bound of FOR
  abbrev pub number_in_host : DbType → CoreExpr → Doing ℤ
  number_in_host host e = do
    v ← (of e).value
    number_of_type host v

  -- the number of the expression of CASE: a constant is asked for no host
  abbrev pub number_of_case : DbType → CoreExpr → Doing ℤ
  number_of_case host e = do
    v ← (of e).value
    if is_constant e then number v else number_of_type host v

  abbrev pub amount : Option CoreExpr → Doing ℤ
  amount None = gives (pos 1)
  amount (Some e) = do
    v ← (of e).value
    number v

  abbrev pub returned : Option CoreExpr → Doing (Option Value)
  returned None = gives None
  returned (Some e) = do
    v ← (of e).value
    gives (Some v)

  -- one number of the count: the control variable gets it, where it fits
  abbrev pub control_gets : CoreControlOf CoreExpr → ℤ → Doing (Unit {0})
  control_gets control n = do
    reference ← led_to program of control.variable
    fits ← fitted control.kind control.variable.place n
    assigns reference (value.Num fits)

  module _ {S : Type 0} (does : S → Doing (Unit {0})) where
    abbrev pub first_true : List (CoreArmOf CoreExpr S) → Doing (Unit {0}) → Doing (Unit {0})
    first_true [] otherwise = otherwise
    first_true (arm ∷ arms) otherwise = do
      holds ← condition arm.condition
      if holds then block does arm.statements else first_true arms otherwise

    -- a turn of REPEAT: whether another follows
    abbrev pub round_until : List S → CoreExpr → Bool → Doing Bool
    round_until body e before = do
      block does body
      ends ← condition e
      gives (not ends)

    -- a turn of FOR, with its number: the next number
    abbrev pub round_with : CoreControlOf CoreExpr → ℤ → List S → ℤ → Doing ℤ
    round_with control by body n = do
      control_gets control n
      block does body
      gives (n +ℤ by)

    -- THE rows
    abbrev pub row : CoreStmtOf-F CoreExpr S → Doing (Unit {0})
    row (stmts.Empty place) = nothing
    row (stmts.Exit place) = stops Exiting
    row (stmts.Halt place) = stops Ended
    row (stmts.Assign at designator e) = do
      reference ← led_to program of designator
      v ← (of e).value
      assigns reference v
    row (stmts.Call call) = do
      result ← called program of calls call
      without_result result
    row (stmts.InOut place procedure given_to) = do
      got ← each (given program of) given_to
      calls.in_out place (performs (done_reference program) procedure got)
    row (stmts.Count place direction designator kind by) = do
      reference ← led_to program of designator
      by ← amount by
      v ← value_at reference
      n ← number v
      sum ← exact (counted direction n by)
      fits ← fitted kind place sum
      assigns reference (value.Num fits)
    row (stmts.If place arms otherwise) = first_true arms (or_else does nothing otherwise)
    row (stmts.Case place e host branches otherwise) = do
      n ← number_of_case host e
      first_labelled does n branches (or_else does (traps 5 place) otherwise)
    row (stmts.While place e body) = loops (λ before. condition e) (round does body) (tt {0})
    row (stmts.Repeat place body e) = loops gives (round_until body e) true
    row (stmts.Loop place body) = up_to_exit (loops (λ before. gives true) (round does body) (tt {0}))
    row (stmts.Return place e) = do
      v ← returned e
      stops (Returning v)
    row (stmts.For place control from to by body) = do
      first ← number_in_host (carried_host control.host from) from
      last ← number_in_host (carried_host control.host to) to
      spend (phrases_of_by by)
      loops (λ n. gives (goes_on_to last (one_without by) n)) (round_with control (one_without by) body) first

    abbrev pub does_level : CoreStmtOf-F CoreExpr S → Doing (Unit {0})
    does_level level = do
      spend 1
      row level

abbrev pub its_doing : Doing (Unit {0}) → Doing (Unit {0})
its_doing doing = doing

module _ (program : Program) (calls : Calls) where
  -- THE meaning of a statement
  unfoldable pub does : CoreStmtOf CoreExpr → Doing (Unit {0})
  does = fold-CoreStmtOf CoreExpr (Doing (Unit {0})) (does_level program calls its_doing)
