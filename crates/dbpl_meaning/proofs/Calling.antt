-- How Write and calls of routines run from a state, wherever they stand in an example.
use Rattle.std.proofs.Common.{◌≡◌, ◌+◌, ◌*◌, ◌∙◌, ℕ, suc, ℤ, pos, true, List, [], ◌∷◌, ◌++◌, Option, Some, ap, length, refl}
use Rattle.dbpl_base.specs.declared.place.Place.{Place}
use Rattle.dbpl_core.specs.Stores as stores
use Rattle.dbpl_core.specs.Stores.{Store}
use Rattle.dbpl_core.specs.declared.argument_of.CoreArgumentOf.TheVariants as arguments
use Rattle.dbpl_core.specs.declared.cell.Cell.{Cell}
use Rattle.dbpl_core.specs.declared.expr.CoreExpr.{CoreExpr, roll-CoreExpr}
use Rattle.dbpl_core.specs.declared.expr.CoreExpr.TheOpen as exprs
use Rattle.dbpl_core.specs.declared.in_out_procedure.InOutProcedure.TheVariants as procedures
use Rattle.dbpl_core.specs.declared.program.Program.{Program}
use Rattle.dbpl_core.specs.declared.routine.Routine.{Routine}
use Rattle.dbpl_core.specs.declared.stmt.CoreStmtOf.{CoreStmtOf-F, roll-CoreStmtOf}
use Rattle.dbpl_core.specs.declared.stmt.CoreStmtOf.TheOpen as stmts
use Rattle.dbpl_meaning.proofs.Examples.{Statement, here, literal, state_with}
use Rattle.dbpl_meaning.proofs.Running.{fits-runs, gives-runs, number-runs, number_text-runs, row-runs, stopped, then, there-runs, turn-runs}
use Rattle.dbpl_meaning.proofs.Trees.{one-call, one-in_out}
use Rattle.dbpl_meaning.specs.Declared.{routine_named, started_locals}
use Rattle.dbpl_meaning.specs.Expressions.{Calls}
use Rattle.dbpl_meaning.specs.Meaning.{calls_at, result_of}
use Rattle.dbpl_meaning.specs.State as phrase
use Rattle.dbpl_meaning.specs.State.{Doing, Done, State, Stops}
use Rattle.dbpl_meaning.specs.Statements.{does}
use Rattle.dbpl_meaning.specs.Words.{ByReturn, Leaving, block, closes_frame, gives, of_type, opens_frame, up_to_return, writes}
use Rattle.dbpl_value.proofs.ValuesLemmas.{is_of-out}
use Rattle.dbpl_value.specs.Types.{is_in, range_of}
use Rattle.dbpl_value.specs.Values.{is_of}
use Rattle.dbpl_value.specs.declared.db_type.DbType.TheVariants as kinds
use Rattle.dbpl_value.specs.declared.range.Range.{Range}
use Rattle.dbpl_value.specs.declared.value.Value.{Value}
use Rattle.dbpl_value.specs.declared.value.Value.TheVariants as value

-- ---- Write

abbrev pub chars : Range
chars = record { least = pos 0; greatest = pos 255 }

pub char-range : range_of kinds.Char ≡ Some chars
char-range = rw kinds.outs-Char refl

char-of : (n : ℤ) → is_of kinds.Char (value.Num n) ≡ is_in chars n
char-of n = is_of-out kinds.Char (value.Num n) ∙ rw (kinds.outs-Char, value.outs-Num) refl

pub of_char-runs : (n : ℤ) (state : State) → is_in chars n ≡ true → of_type kinds.Char (value.Num n) state ≡ Done (value.Num n) state
unfolding gives
of_char-runs n state lies = rw (char-of n, lies) refl

abbrev pub write : ℕ → CoreStmtOf-F CoreExpr Statement
write byte = stmts.InOut here procedures.Write (arguments.Value (roll-CoreExpr (exprs.Fitted here kinds.Char (literal byte))) ∷ [])

pub prints-runs :
    (bytes : List ℕ) (left work : ℕ) (store : Store) →
    writes bytes (state_with left work store) ≡ Done (tt {0}) (state_with left (work + 8 * length bytes) (stores.says bytes store))
unfolding writes
prints-runs bytes left work store = refl

pub write-runs :
    (program : Program) (room byte left work : ℕ) (store : Store) → is_in chars (pos byte) ≡ true →
    does program (calls_at program (suc room)) (roll-CoreStmtOf CoreExpr (write byte)) (state_with (suc left) work store)
    ≡ Done (tt {0}) (state_with left (work + 1 + 1 + 1 + 8) (stores.says (byte ∷ []) store))
write-runs program room byte left work store lies =
    let calls : Calls = calls_at program (suc room) in
    row-runs program calls (write byte) _ _
    (then _ _ _ _ _ _
    (then _ _ _ _ _ _
    (then _ _ _ _ _ _ (fits-runs program calls here kinds.Char chars (literal byte) (pos byte) _ _ char-range lies (number_text-runs program calls here (pos byte) _)) (gives-runs _ _))
    (then _ _ _ _ _ _ (gives-runs _ _) (gives-runs _ _)))
    (ap (λ (doing : Doing (Unit {0})). doing (state_with (suc left) (work + 1 + 1) store)) (one-in_out program room here _) ∙
    turn-runs _ (state_with (suc left) (work + 1 + 1) store) left _ refl
    (then _ _ _ _ _ _ (then _ _ _ _ _ _ (of_char-runs (pos byte) _ lies) (number-runs (pos byte) _))
    (prints-runs (byte ∷ []) left (work + 1 + 1 + 1) store))))

-- ---- routines

return-halts : (doing : Doing (Unit {0})) (state last : State) → doing state ≡ Stops phrase.Ended last → up_to_return doing state ≡ Stops phrase.Ended last
unfolding up_to_return
return-halts doing state last is = rw is refl

pub return-returns :
    (doing : Doing (Unit {0})) (v : Option Value) (state last : State) → doing state ≡ Stops (phrase.Returning v) last →
    up_to_return doing state ≡ Done (ByReturn v) last
unfolding up_to_return
return-returns doing v state last is = rw is refl

module _ (program : Program) (room : ℕ) (place : Place) (owner name : List ℕ) (cells : List Cell) (routine : Routine)
    (named : routine_named program owner name ≡ Some routine) (left work : ℕ) (store inner : Store)
    (opening : opens_frame (cells ++ started_locals routine) (state_with left (work + 1) store) ≡ Done (tt {0}) (state_with left (work + 1) inner)) where
  -- a call in which HALT is met
  pub routine-halts :
      (last : State) →
      block (does program (calls_at program room)) routine.body (state_with left (work + 1) inner) ≡ Stops phrase.Ended last →
      (calls_at program (suc room)).routine place owner name cells (state_with (suc left) work store) ≡ Stops phrase.Ended last
  routine-halts last is =
      ap (λ (doing : Doing (Option Value)). doing (state_with (suc left) work store)) (one-call program room place owner name cells)
      ∙ turn-runs _ (state_with (suc left) work store) left _ refl
      (then _ _ _ _ _ _ (there-runs _ routine _ named)
      (then (opens_frame (cells ++ started_locals routine)) _ _ _ _ _ opening
      (stopped _ _ _ _ _ (stopped _ _ _ _ _ (return-halts (block (does program (calls_at program room)) routine.body) _ _ is)))))

  -- a call that comes to its end, with its result
  pub routine-done :
      (leaving : Leaving) (between outside : State) (result : Option Value) →
      up_to_return (block (does program (calls_at program room)) routine.body) (state_with left (work + 1) inner) ≡ Done leaving between →
      result_of routine.head.result routine.finish leaving between ≡ Done result between →
      closes_frame between ≡ Done (tt {0}) outside →
      (calls_at program (suc room)).routine place owner name cells (state_with (suc left) work store) ≡ Done result outside
  routine-done leaving between outside result is gives_it closing =
      ap (λ (doing : Doing (Option Value)). doing (state_with (suc left) work store)) (one-call program room place owner name cells)
      ∙ turn-runs _ (state_with (suc left) work store) left _ refl
      (then _ _ _ _ _ _ (there-runs _ routine _ named)
      (then (opens_frame (cells ++ started_locals routine)) _ _ _ _ _ opening
      (then _ _ _ _ _ _ (then _ _ _ _ _ _ is gives_it) (then closes_frame _ _ _ _ _ closing (gives-runs _ _)))))
