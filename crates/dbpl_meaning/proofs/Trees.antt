-- The meaning of each expression and each statement is steady, by induction on the trees, where the calls are that they may
-- begin; and these are, by induction on the number of those that may still be open.
use Rattle.std.proofs.Common.{◌≡◌, ◌-◌, ℕ, zero, suc, List, [], ◌∷◌, Option, Some, None, arith, refl, subst}
use Rattle.std.specs.Prelude.{slice_get}
use Rattle.dbpl_base.specs.declared.place.Place.{Place}
use Rattle.dbpl_core.specs.declared.cell.Cell.{Cell}
use Rattle.dbpl_core.specs.declared.expr.CoreExpr.{CoreExpr, CoreExpr-F, ind-CoreExpr}
use Rattle.dbpl_core.specs.declared.program.Program.{Program}
use Rattle.dbpl_core.specs.declared.routine.Routine.{Routine}
use Rattle.dbpl_core.specs.declared.stmt.CoreStmtOf.{CoreStmtOf, CoreStmtOf-F, ind-CoreStmtOf}
use Rattle.dbpl_core.specs.declared.unit.CoreUnit.{CoreUnit}
use Rattle.dbpl_meaning.proofs.Levels.{does-map, does-roll, value-map, value_of-roll}
use Rattle.dbpl_meaning.proofs.Rows.{AreSteady, steady_does, steady_value}
use Rattle.dbpl_meaning.proofs.Steady.{IsSteady, steady_bind, steady_block, steady_gives, steady_in_frame, steady_nothing, steady_of_type, steady_stops, steady_there, steady_turn, steady_up_to_return}
use Rattle.dbpl_meaning.specs.Expressions.{Calls, meaning_of, value_level, value_of}
use Rattle.dbpl_meaning.specs.Meaning.{begun, bodies, body_and_then, body_does, calls_at, limit, named_does, result_of, routine_does, runs, without_value}
use Rattle.dbpl_meaning.specs.State.{Doing}
use Rattle.dbpl_meaning.specs.Statements.{does, does_level}
use Rattle.dbpl_meaning.specs.Words.{◌>>=◌, AtEnd, ByReturn, Leaving, gives, nothing, traps, turn}
use Rattle.dbpl_value.specs.declared.bound.Bound.{Bound}
use Rattle.dbpl_value.specs.declared.db_type.DbType.{DbType}

module _ (program : Program) (calls : Calls) (steady : AreSteady calls) where
  abbrev IsSteadyExpr : CoreExpr → Type 0
  IsSteadyExpr e = IsSteady (value_of program calls e)

  abbrev SteadyExpr : Type 0
  SteadyExpr = (e : CoreExpr) × IsSteadyExpr e

  pub steady_value_of : (e : CoreExpr) → IsSteady (value_of program calls e)
  steady_value_of =
      ind-CoreExpr IsSteadyExpr (λ x y is.
      rw (value_of-roll program calls x)
      (subst (λ (z : CoreExpr-F CoreExpr). IsSteady (value_level program (meaning_of program calls) calls z)) is
      (rw (value-map program calls (meaning_of program calls) (λ (one : SteadyExpr). one.0) y)
      (steady_value program (λ (one : SteadyExpr). meaning_of program calls one.0) (λ one. one.1) calls steady y))))

  abbrev Stmt : Type 0
  Stmt = CoreStmtOf CoreExpr

  abbrev IsSteadyStmt : Stmt → Type 0
  IsSteadyStmt s = IsSteady (does program calls s)

  abbrev SteadyStmt : Type 0
  SteadyStmt = (s : Stmt) × IsSteadyStmt s

  pub steady_does_of : (s : CoreStmtOf CoreExpr) → IsSteady (does program calls s)
  steady_does_of =
      ind-CoreStmtOf CoreExpr IsSteadyStmt (λ x y is.
      rw (does-roll program calls x)
      (subst (λ (z : CoreStmtOf-F CoreExpr Stmt). IsSteady (does_level program calls (does program calls) z)) is
      (rw (does-map program calls (does program calls) (λ (one : SteadyStmt). one.0) y)
      (steady_does program calls steady steady_value_of (λ (one : SteadyStmt). does program calls one.0) (λ one. one.1) y))))

  -- ---- routines and bodies

  steady_result : (kind : Option DbType) (finish : Place) (leaving : Leaving) → IsSteady (result_of kind finish leaving)
  steady_result None finish AtEnd = steady_gives _
  steady_result None finish (ByReturn None) = steady_gives _
  steady_result None finish (ByReturn (Some v)) = steady_stops _
  steady_result (Some kind) finish AtEnd = steady_stops _
  steady_result (Some kind) finish (ByReturn None) = steady_stops _
  steady_result (Some kind) finish (ByReturn (Some v)) = steady_bind _ _ (steady_of_type kind v) (λ checked. steady_gives _)

  steady_routine_does : (cells : List Cell) (routine : Routine) → IsSteady (routine_does program calls cells routine)
  steady_routine_does cells routine =
      steady_in_frame _ _
      (steady_bind _ _ (steady_up_to_return _ (steady_block _ steady_does_of routine.body)) (λ leaving.
      steady_result routine.head.result routine.finish leaving))

  pub steady_named_does : (owner name : List ℕ) (cells : List Cell) → IsSteady (named_does program calls owner name cells)
  steady_named_does owner name cells =
      steady_bind _ _ (steady_there _) (λ routine. steady_routine_does cells routine)

  steady_without_value : (leaving : Leaving) → IsSteady (without_value leaving)
  steady_without_value AtEnd = steady_nothing
  steady_without_value (ByReturn None) = steady_nothing
  steady_without_value (ByReturn (Some v)) = steady_stops _

  pub steady_body_does : (unit : CoreUnit) → IsSteady (body_does program calls unit)
  steady_body_does unit =
      steady_in_frame _ _
      (steady_bind _ _ (steady_up_to_return _ (steady_block _ steady_does_of unit.body)) (λ leaving. steady_without_value leaving))

-- ---- the calls, and the whole

pub steady_calls : (program : Program) (room : ℕ) → AreSteady (calls_at program room)
unfolding calls_at
steady_calls program zero = record {
  routine = λ place owner name cells. steady_stops _;
  in_out = λ place doing steady. steady_stops _;
}
steady_calls program (suc room) = record {
  routine = λ place owner name cells. steady_turn _ (steady_named_does program (calls_at program room) (steady_calls program room) owner name cells);
  in_out = λ place doing steady. steady_turn doing steady;
}

-- a call where none may be open
pub no-call :
    (program : Program) (place : Place) (owner name : List ℕ) (cells : List Cell) →
    (calls_at program 0).routine place owner name cells ≡ traps 7 place
unfolding calls_at
no-call program place owner name cells = refl

pub no-in_out : (program : Program) (place : Place) (doing : Doing (Unit {0})) → (calls_at program 0).in_out place doing ≡ traps 7 place
unfolding calls_at
no-in_out program place doing = refl

-- a call where so many more may be open
pub one-call :
    (program : Program) (room : ℕ) (place : Place) (owner name : List ℕ) (cells : List Cell) →
    (calls_at program (suc room)).routine place owner name cells ≡ turn (named_does program (calls_at program room) owner name cells)
unfolding calls_at
one-call program room place owner name cells = refl

pub one-in_out :
    (program : Program) (room : ℕ) (place : Place) (doing : Doing (Unit {0})) → (calls_at program (suc room)).in_out place doing ≡ turn doing
unfolding calls_at
one-in_out program room place doing = refl

-- a run is the bodies in their order
pub whole-bodies :
    (program : Program) (database : List Bound) (input : List ℕ) (turns : ℕ) →
    runs program database input turns ≡ bodies program program.order (begun program database input turns)
unfolding runs
whole-bodies program database input turns = refl

pub no-body : (program : Program) → bodies program [] ≡ nothing
no-body program = refl

-- a body is a turn whose statements may open one call less than the limit
pub one-body :
    (program : Program) (room number : ℕ) (numbers : List ℕ) (unit : CoreUnit) → limit ≡ suc room →
    slice_get program.units number ≡ Some unit → bodies program (number ∷ numbers) ≡ body_and_then program room unit numbers
unfolding ◌>>=◌ gives
one-body program room number numbers unit less has =
    let room_is : limit - 1 ≡ room = omega (arith, less) in rw (has, room_is) refl

pub steady_bodies : (program : Program) (numbers : List ℕ) → IsSteady (bodies program numbers)
steady_bodies program [] = steady_nothing
steady_bodies program (number ∷ numbers) =
    steady_bind _ _ (steady_there _) (λ unit.
    steady_bind _ _ (steady_turn _ (steady_body_does program _ (steady_calls program _) unit)) (λ _. steady_bodies program numbers))
