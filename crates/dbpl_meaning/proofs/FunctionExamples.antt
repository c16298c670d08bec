-- c := f(1), with PROCEDURE f(n: CARDINAL): CARDINAL; VAR k: CARDINAL; BEGIN k := n; RETURN k END f; computed from the rows.
use Rattle.std.proofs.Common.{◌≡◌, ◌+◌, ◌∙◌, ℕ, pos, false, [], ◌∷◌, Some, refl}
use Rattle.std.specs.Prelude.{codes}
use Rattle.dbpl_core.specs.Stores as stores
use Rattle.dbpl_core.specs.Stores.{Store}
use Rattle.dbpl_core.specs.declared.argument_of.CoreArgumentOf.TheVariants as arguments
use Rattle.dbpl_core.specs.declared.cell.Cell.{Cell}
use Rattle.dbpl_core.specs.declared.cell.Cell.TheVariants as cell
use Rattle.dbpl_core.specs.declared.expr.CoreExpr.{CoreExpr, CoreExpr-F, roll-CoreExpr}
use Rattle.dbpl_core.specs.declared.expr.CoreExpr.TheOpen as exprs
use Rattle.dbpl_core.specs.declared.program.Program.{Program}
use Rattle.dbpl_core.specs.declared.reference.Reference.{Reference}
use Rattle.dbpl_core.specs.declared.reference_root.ReferenceRoot.TheVariants as root
use Rattle.dbpl_core.specs.declared.routine.Routine.{Routine}
use Rattle.dbpl_core.specs.declared.stmt.CoreStmtOf.{CoreStmtOf-F, roll-CoreStmtOf}
use Rattle.dbpl_core.specs.declared.stmt.CoreStmtOf.TheOpen as stmts
use Rattle.dbpl_meaning.proofs.Calling.{return-returns, routine-done}
use Rattle.dbpl_meaning.proofs.Examples.{Statement, c_declared, c_named, card-range, cards, ended-comes, here, literal, of-body, one-runs, opened, program_of, slot, start-card, state_with, store_of}
use Rattle.dbpl_meaning.proofs.Running.{after, fits-runs, gives-runs, number_text-runs, of_card-runs, row-runs, spend-runs, stopped, then, there-runs, value-runs}
use Rattle.dbpl_meaning.specs.Declared.{global_reference}
use Rattle.dbpl_meaning.specs.Expressions.{Calls, led_to, value_of}
use Rattle.dbpl_meaning.specs.Meaning.{Ended, calls_at, meaning}
use Rattle.dbpl_meaning.specs.State as phrase
use Rattle.dbpl_meaning.specs.State.{Done, State, Stops}
use Rattle.dbpl_meaning.specs.Statements.{does, of}
use Rattle.dbpl_meaning.specs.Words.{◌>>=◌, ByReturn, assigns, block, closes_frame, gives, looks, nothing, opens_frame, replaces, spend, stops, value_at, variable_at}
use Rattle.dbpl_value.specs.Values.{start_value_of}
use Rattle.dbpl_value.specs.declared.db_type.DbType.TheVariants as kinds
use Rattle.dbpl_value.specs.declared.head.Head.{Head}
use Rattle.dbpl_value.specs.declared.value.Value.{Value}
use Rattle.dbpl_value.specs.declared.value.Value.TheVariants as value

abbrev f_head : Head
f_head = record {
  name = codes "f";
  transaction = false;
  params = record { name = codes "n"; kind = kinds.Card; by_ref = false } ∷ [];
  result = Some kinds.Card;
}

abbrev slot_read : ℕ → CoreExpr
slot_read n = roll-CoreExpr (exprs.Read (slot n) kinds.Card)

abbrev k_set : CoreStmtOf-F CoreExpr Statement
k_set = stmts.Assign here (slot 1) (roll-CoreExpr (exprs.Fitted here kinds.Card (slot_read 0)))

abbrev k_returned : CoreStmtOf-F CoreExpr Statement
k_returned = stmts.Return here (Some (roll-CoreExpr (exprs.Fitted here kinds.Card (slot_read 1))))

abbrev f_routine : Routine
f_routine = record {
  head = f_head;
  locals = record { name = codes "k"; kind = kinds.Card } ∷ [];
  body = roll-CoreStmtOf CoreExpr k_set ∷ roll-CoreStmtOf CoreExpr k_returned ∷ [];
  finish = here;
}

abbrev f_called : CoreExpr-F CoreExpr
f_called = exprs.Call (record {
  place = here;
  owner = codes "M";
  head = f_head;
  arguments = arguments.Value (roll-CoreExpr (exprs.Fitted here kinds.Card (literal 1))) ∷ [];
}) kinds.Card

abbrev c_set : CoreStmtOf-F CoreExpr Statement
c_set = stmts.Assign here c_named (roll-CoreExpr (exprs.Fitted here kinds.Card (roll-CoreExpr f_called)))

abbrev calling : Program
calling = program_of c_declared (f_routine ∷ []) (roll-CoreStmtOf CoreExpr c_set ∷ [])

abbrev outer : Calls
outer = calls_at calling 9999

abbrev inner : Calls
inner = calls_at calling 9998

abbrev holds : ℕ → Cell
holds n = cell.Holds kinds.Card (value.Num (pos n))

-- in f, with this value in k
abbrev in_f : Value → Store
in_f k = record (store_of 0) { frames = [] ∷ [] ∷ (holds 1 ∷ cell.Holds kinds.Card k ∷ []) ∷ [] }

abbrev slot_at : ℕ → Reference
slot_at n = record { root = root.Slot 2 n; path = [] }

abbrev one : Value
one = value.Num (pos 1)

n-read : (left work : ℕ) (k : Value) → value_of calling inner (slot_read 0) (state_with left work (in_f k)) ≡ Done one (state_with left (work + 1) (in_f k))
unfolding ◌>>=◌ spend gives variable_at looks stores.refers value_at stores.reads
n-read left work k = value-runs calling inner (exprs.Read (slot 0) kinds.Card) _ _ refl

k-read : (left work : ℕ) → value_of calling inner (slot_read 1) (state_with left work (in_f one)) ≡ Done one (state_with left (work + 1) (in_f one))
unfolding ◌>>=◌ spend gives variable_at looks stores.refers value_at stores.reads
k-read left work = value-runs calling inner (exprs.Read (slot 1) kinds.Card) _ _ refl

k-led : (left work : ℕ) (k : Value) → led_to calling (of calling inner) (slot 1) (state_with left work (in_f k)) ≡ Done (slot_at 1) (state_with left (work + 1) (in_f k))
unfolding ◌>>=◌ spend gives variable_at looks stores.refers
k-led left work k = refl

k-gets : (left work : ℕ) (k : Value) → assigns (slot_at 1) one (state_with left work (in_f k)) ≡ Done (tt {0}) (state_with left work (in_f one))
unfolding assigns looks replaces stores.puts
k-gets left work k = then _ _ _ _ _ _ refl (then _ _ _ _ _ _ (of_card-runs (pos 1) _ refl) refl)

k_set-runs : (k : Value) → does calling inner (roll-CoreStmtOf CoreExpr k_set) (state_with 98 6 (in_f k)) ≡ Done (tt {0}) (state_with 98 9 (in_f one))
k_set-runs k =
    row-runs calling inner k_set _ _
    (then _ _ _ _ _ _ (k-led 98 7 k)
    (then _ _ _ _ _ _ (fits-runs calling inner here kinds.Card cards (slot_read 0) (pos 1) _ _ card-range refl (n-read 98 8 k)) (k-gets 98 9 k)))

k_returned-runs : does calling inner (roll-CoreStmtOf CoreExpr k_returned) (state_with 98 9 (in_f one)) ≡ Stops (phrase.Returning (Some one)) (state_with 98 11 (in_f one))
unfolding stops
k_returned-runs =
    row-runs calling inner k_returned _ _
    (then _ _ _ _ _ _
    (then _ _ _ _ _ _ (fits-runs calling inner here kinds.Card cards (slot_read 1) (pos 1) _ _ card-range refl (k-read 98 10)) (gives-runs _ _))
    refl)

f-runs : outer.routine here (codes "M") (codes "f") (holds 1 ∷ []) (state_with 99 5 (store_of 0)) ≡ Done (Some one) (state_with 98 11 (store_of 0))
unfolding opens_frame closes_frame stores.opens stores.closes
f-runs =
    let k : Value = start_value_of kinds.Card in
    routine-done calling 9998 here (codes "M") (codes "f") (holds 1 ∷ []) f_routine refl 98 5 (store_of 0) (in_f k) refl
    (ByReturn (Some one)) (state_with 98 11 (in_f one)) (state_with 98 11 (store_of 0)) (Some one)
    (return-returns (block (does calling inner) f_routine.body) (Some one) _ _
    (then (does calling inner (roll-CoreStmtOf CoreExpr k_set)) _ _ _ _ _ (k_set-runs k)
    (stopped (does calling inner (roll-CoreStmtOf CoreExpr k_returned)) (λ _. nothing) _ _ _ k_returned-runs)))
    (then _ _ _ _ _ _ (of_card-runs (pos 1) _ refl) (gives-runs _ _))
    refl

c-led : (state : State) → led_to calling (of calling outer) c_named state ≡ Done (global_reference 0) (after 1 state)
unfolding ◌>>=◌ spend gives
c-led state = refl

c-gets : assigns (global_reference 0) one (state_with 98 11 (store_of 0)) ≡ Done (tt {0}) (state_with 98 11 (store_of 1))
unfolding assigns looks replaces stores.puts
c-gets = then _ _ _ _ _ _ refl (then _ _ _ _ _ _ (of_card-runs (pos 1) _ refl) refl)

called-runs : value_of calling outer (roll-CoreExpr f_called) (state_with 99 3 (store_of 0)) ≡ Done one (state_with 98 11 (store_of 0))
called-runs =
    value-runs calling outer f_called _ _
    (then _ _ _ _ _ _ (spend-runs 1 _)
    (then _ _ _ _ _ _
    (then _ _ _ _ _ _
    (then _ _ _ _ _ _
    (then _ _ _ _ _ _
    (then _ _ _ _ _ _ (fits-runs calling outer here kinds.Card cards (literal 1) (pos 1) _ _ card-range refl (number_text-runs calling outer here (pos 1) _)) (gives-runs _ _))
    (then _ _ _ _ _ _ (of_card-runs (pos 1) _ refl) (gives-runs _ _)))
    (then _ _ _ _ _ _ (gives-runs _ _) (gives-runs _ _)))
    f-runs)
    (there-runs _ one _ refl)))

calling_begins : opened calling [] 99 ≡ state_with 99 1 (store_of 0)
unfolding stores.opens
calling_begins = rw start-card refl

-- c is 1 afterwards
pub calling-does : block (does calling outer) (roll-CoreStmtOf CoreExpr c_set ∷ []) (opened calling [] 99) ≡ Done (tt {0}) (state_with 98 11 (store_of 1))
calling-does =
    rw calling_begins
    (one-runs calling outer c_set _ _
    (then _ _ _ _ _ _ (c-led _)
    (then _ _ _ _ _ _ (fits-runs calling outer here kinds.Card cards (roll-CoreExpr f_called) (pos 1) _ _ card-range refl called-runs) c-gets)))

pub calling-comes : meaning calling [] [] 100 ≡ record { events = []; stands = Ended; input = []; work = 11 }
calling-comes = of-body _ _ _ _ _ ∙ ended-comes calling _ [] 99 _ calling-does
