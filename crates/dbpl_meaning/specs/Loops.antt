-- What the loops do, said of the statements themselves by their tests and turns. Behind the work of the statement stands a
-- phrase `loop`, which is a test, and where that says so a turn and the phrase again. Since a turn has one turn less left, and
-- without one stops, no two phrases do so.
use Rattle.std.specs.Prelude.{◌≡◌, ℤ, ◌+ℤ◌, Bool, not, if◌then◌else◌, List, Option}
use Rattle.dbpl_base.specs.declared.place.Place.{Place}
use Rattle.dbpl_core.specs.declared.control_of.CoreControlOf.{CoreControlOf}
use Rattle.dbpl_core.specs.declared.expr.CoreExpr.{CoreExpr}
use Rattle.dbpl_core.specs.declared.program.Program.{Program}
use Rattle.dbpl_core.specs.declared.stmt.CoreStmtOf.{CoreStmtOf, CoreStmtOf-F, roll-CoreStmtOf}
use Rattle.dbpl_core.specs.declared.stmt.CoreStmtOf.TheOpen as stmts
use Rattle.dbpl_meaning.specs.Expressions.{Calls}
use Rattle.dbpl_meaning.specs.State.{Doing}
use Rattle.dbpl_meaning.specs.Statements.{carried_host, condition, control_gets, does, goes_on_to, number_in_host, one_without, phrases_of_by}
use Rattle.dbpl_meaning.specs.Words.{◌>>=◌, ◌>>◌, block, gives, nothing, spend, turn, up_to_exit}

-- the statements of a loop
abbrev pub statements_do : Program → Calls → List (CoreStmtOf CoreExpr) → Doing (Unit {0})
statements_do program calls body = block (does program calls) body

-- what a statement does
abbrev pub form_does : Program → Calls → CoreStmtOf-F CoreExpr (CoreStmtOf CoreExpr) → Doing (Unit {0})
form_does program calls form = does program calls (roll-CoreStmtOf CoreExpr form)

-- WHILE: the condition, and where it holds a turn with the statements, and all this again.
pub record IsWhile (program : Program) (calls : Calls) (place : Place) (e : CoreExpr) (body : List (CoreStmtOf CoreExpr)) : Type 0 where
  pub loop : Doing (Unit {0})
  pub begins : form_does program calls (stmts.While place e body) ≡ (spend 1 >> loop)
  pub unrolls :
      loop ≡ (condition program calls e >>= (λ holds. if holds then turn (statements_do program calls body) >> loop else nothing))

-- a turn of REPEAT, with whether another follows
abbrev pub repeated : Program → Calls → List (CoreStmtOf CoreExpr) → CoreExpr → Doing Bool
repeated program calls body e = do
  statements_do program calls body
  ends ← condition program calls e
  gives (not ends)

-- REPEAT: a turn with the statements and the condition, and all this again unless it holds.
pub record IsRepeat (program : Program) (calls : Calls) (place : Place) (body : List (CoreStmtOf CoreExpr)) (e : CoreExpr) : Type 0 where
  pub loop : Doing (Unit {0})
  pub begins : form_does program calls (stmts.Repeat place body e) ≡ (spend 1 >> loop)
  pub unrolls : loop ≡ (turn (repeated program calls body e) >>= (λ again. if again then loop else nothing))

-- LOOP: a turn with the statements, and all this again; an EXIT leads behind it.
pub record IsLoop (program : Program) (calls : Calls) (place : Place) (body : List (CoreStmtOf CoreExpr)) : Type 0 where
  pub loop : Doing (Unit {0})
  pub begins : form_does program calls (stmts.Loop place body) ≡ (spend 1 >> up_to_exit loop)
  pub unrolls : loop ≡ (turn (statements_do program calls body) >> loop)

-- a turn of FOR with this number, and the next number
abbrev pub counted_with : Program → Calls → CoreControlOf CoreExpr → ℤ → List (CoreStmtOf CoreExpr) → ℤ → Doing ℤ
counted_with program calls control by body n = do
  control_gets program calls control n
  statements_do program calls body
  gives (n +ℤ by)

-- FOR: both bounds; and then, from the first number on, while the last isn't passed, a turn in which the control variable gets
-- the number in front of the statements, and all this again with the next number.
pub record IsFor
    (program : Program) (calls : Calls) (place : Place) (control : CoreControlOf CoreExpr) (from to : CoreExpr) (by : Option ℤ)
    (body : List (CoreStmtOf CoreExpr)) : Type 0 where
  pub loop : ℤ → ℤ → Doing (Unit {0})
  pub begins :
      form_does program calls (stmts.For place control from to by body)
      ≡ (spend 1 >> (number_in_host program calls (carried_host control.host from) from >>= (λ first.
      number_in_host program calls (carried_host control.host to) to >>= (λ last. spend (phrases_of_by by) >> loop last first))))
  pub unrolls :
      (last n : ℤ) →
      loop last n
      ≡ (if goes_on_to last (one_without by) n then turn (counted_with program calls control (one_without by) body n) >>= loop last else nothing)
