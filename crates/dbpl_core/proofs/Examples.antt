-- The phrases of `c + f(a[1], 'x') * 2` and of `c := 1`, counted on their trees. Places are all one here.
use Rattle.std.proofs.Common.{◌≡◌, [], ◌∷◌, Some, false, pos, refl}
use Rattle.std.specs.Prelude.{codes}
use Rattle.dbpl_base.specs.declared.place.Place.{Place}
use Rattle.dbpl_core.proofs.Levels.{phrases_in-roll, phrases_of-roll}
use Rattle.dbpl_core.specs.Phrases.{phrases_in, phrases_of}
use Rattle.dbpl_core.specs.declared.argument_of.CoreArgumentOf.TheVariants as arguments
use Rattle.dbpl_core.specs.declared.arithmetic_operator.ArithmeticOperator.TheVariants as operators
use Rattle.dbpl_core.specs.declared.designator_of.CoreDesignatorOf.{CoreDesignatorOf}
use Rattle.dbpl_core.specs.declared.expr.CoreExpr.{CoreExpr, roll-CoreExpr}
use Rattle.dbpl_core.specs.declared.expr.CoreExpr.TheOpen as exprs
use Rattle.dbpl_core.specs.declared.root.Root.TheVariants as roots
use Rattle.dbpl_core.specs.declared.step_of.CoreStepOf.TheVariants as steps
use Rattle.dbpl_core.specs.declared.stmt.CoreStmtOf.{roll-CoreStmtOf}
use Rattle.dbpl_core.specs.declared.stmt.CoreStmtOf.TheOpen as stmts
use Rattle.dbpl_core.specs.declared.whole_host.WholeHost.TheVariants as hosts
use Rattle.dbpl_value.specs.declared.db_type.DbType.{DbType}
use Rattle.dbpl_value.specs.declared.db_type.DbType.TheVariants as kinds
use Rattle.dbpl_value.specs.declared.head.Head.{Head}
use Rattle.dbpl_value.specs.declared.range.Range.{Range}

abbrev p : Place
p = record { unit = 0; line = 1; col = 1 }

abbrev one_to_three : Range
one_to_three = record { least = pos 1; greatest = pos 3 }

-- ARRAY [1 .. 3] OF CARDINAL
abbrev array : DbType
array = kinds.Arr (kinds.Sub kinds.Card (pos 1) (pos 3)) kinds.Card

-- PROCEDURE f(n: CARDINAL; ch: CHAR): CARDINAL
abbrev f : Head
f = record {
  name = codes "f";
  transaction = false;
  params = record { name = codes "n"; kind = kinds.Card; by_ref = false } ∷ record { name = codes "ch"; kind = kinds.Char; by_ref = false } ∷ [];
  result = Some kinds.Card;
}

abbrev one : CoreExpr
one = roll-CoreExpr (exprs.Number p (pos 1))

abbrev two : CoreExpr
two = roll-CoreExpr (exprs.Number p (pos 2))

abbrev c_variable : CoreDesignatorOf CoreExpr
c_variable = record { place = p; root = roots.Global (codes "M") (codes "c"); root_kind = kinds.Card; steps = [] }

abbrev c : CoreExpr
c = roll-CoreExpr (exprs.Read c_variable kinds.Card)

-- a[1]
abbrev a_1 : CoreExpr
a_1 =
    roll-CoreExpr (exprs.Read (record {
      place = p;
      root = roots.Global (codes "M") (codes "a");
      root_kind = array;
      steps = steps.Index p one_to_three one ∷ [];
    }) kinds.Card)

-- the argument a[1], where it lies in CARDINAL
abbrev first : CoreExpr
first = roll-CoreExpr (exprs.Fitted p kinds.Card a_1)

-- the character 'x', where it lies in CHAR
abbrev x : CoreExpr
x = roll-CoreExpr (exprs.Number p (pos 120))

abbrev second : CoreExpr
second = roll-CoreExpr (exprs.Fitted p kinds.Char x)

abbrev call : CoreExpr
call =
    roll-CoreExpr (exprs.Call (record {
      place = p;
      owner = codes "M";
      head = f;
      arguments = arguments.Value first ∷ arguments.Value second ∷ [];
    }) kinds.Card)

abbrev product : CoreExpr
product = roll-CoreExpr (exprs.Arithmetic p p operators.Times (Some hosts.Cardinal) call two)

abbrev sum : CoreExpr
sum = roll-CoreExpr (exprs.Arithmetic p p operators.Plus (Some hosts.Cardinal) c product)

pub a_1-phrases : phrases_of a_1 ≡ 3
a_1-phrases = rw (phrases_of-roll (exprs.Read (record { place = p; root = roots.Global (codes "M") (codes "a"); root_kind = array; steps = steps.Index p one_to_three one ∷ [] }) kinds.Card), phrases_of-roll (exprs.Number p (pos 1))) refl

pub sum-phrases : phrases_of sum ≡ 9
sum-phrases =
    rw (
      phrases_of-roll (exprs.Arithmetic p p operators.Plus (Some hosts.Cardinal) c product),
      phrases_of-roll (exprs.Read c_variable kinds.Card),
      phrases_of-roll (exprs.Arithmetic p p operators.Times (Some hosts.Cardinal) call two),
      phrases_of-roll (exprs.Call (record { place = p; owner = codes "M"; head = f; arguments = arguments.Value first ∷ arguments.Value second ∷ [] }) kinds.Card),
      phrases_of-roll (exprs.Fitted p kinds.Card a_1),
      a_1-phrases,
      phrases_of-roll (exprs.Fitted p kinds.Char x),
      phrases_of-roll (exprs.Number p (pos 120)),
      phrases_of-roll (exprs.Number p (pos 2)),
    ) refl

pub assignment-phrases : phrases_in (roll-CoreStmtOf CoreExpr (stmts.Assign p c_variable one)) ≡ 3
assignment-phrases = rw (phrases_in-roll (stmts.Assign p c_variable one), phrases_of-roll (exprs.Number p (pos 1))) refl
