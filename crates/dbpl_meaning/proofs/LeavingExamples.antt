-- HALT, EXIT and RETURN in small programs, computed from the rows.
use Rattle.std.proofs.Common.{◌≡◌, ◌∙◌, true, false, [], ◌∷◌, None, refl}
use Rattle.std.specs.Prelude.{codes}
use Rattle.dbpl_core.specs.Events.{Out}
use Rattle.dbpl_core.specs.Stores as stores
use Rattle.dbpl_core.specs.Stores.{Store, first_store}
use Rattle.dbpl_core.specs.declared.call_of.CoreCallOf.{CoreCallOf}
use Rattle.dbpl_core.specs.declared.expr.CoreExpr.{CoreExpr}
use Rattle.dbpl_core.specs.declared.program.Program.{Program}
use Rattle.dbpl_core.specs.declared.routine.Routine.{Routine}
use Rattle.dbpl_core.specs.declared.stmt.CoreStmtOf.{CoreStmtOf-F, roll-CoreStmtOf}
use Rattle.dbpl_core.specs.declared.stmt.CoreStmtOf.TheOpen as stmts
use Rattle.dbpl_meaning.proofs.Calling.{return-returns, routine-done, routine-halts, write, write-runs}
use Rattle.dbpl_meaning.proofs.Examples.{Statement, empty_store, ended-comes, halt-comes, here, of-body, program_of, state_with}
use Rattle.dbpl_meaning.proofs.Running.{gives-runs, loops-runs, row-runs, stopped, then, turn-runs, turn-stops}
use Rattle.dbpl_meaning.specs.Expressions.{Calls}
use Rattle.dbpl_meaning.specs.Meaning.{Ended, calls_at, meaning}
use Rattle.dbpl_meaning.specs.State as phrase
use Rattle.dbpl_meaning.specs.State.{Doing, Done, State, Stops}
use Rattle.dbpl_meaning.specs.Statements.{does}
use Rattle.dbpl_meaning.specs.Words.{ByReturn, block, closes_frame, nothing, opens_frame, stops, up_to_exit}
use Rattle.dbpl_value.specs.declared.head.Head.{Head}

stops-runs : {A : Type 0} (stop : phrase.Stop) (state : State) → stops {A = A} stop state ≡ Stops stop state
unfolding stops
stops-runs stop state = refl

-- ---- p; Write('y'), where p begins with a statement that leads out of it, and Write('y') stands behind that too

abbrev p_head : Head
p_head = record { name = codes "p"; transaction = false; params = []; result = None }

abbrev p_call : CoreCallOf CoreExpr
p_call = record { place = here; owner = codes "M"; head = p_head; arguments = [] }

abbrev leaving_by : CoreStmtOf-F CoreExpr Statement → Routine
leaving_by form = record {
  head = p_head;
  locals = [];
  body = roll-CoreStmtOf CoreExpr form ∷ roll-CoreStmtOf CoreExpr (write 120) ∷ [];
  finish = here;
}

abbrev p_then_y : CoreStmtOf-F CoreExpr Statement → Program
p_then_y form =
    program_of [] (leaving_by form ∷ [])
    (roll-CoreStmtOf CoreExpr (stmts.Call p_call) ∷ roll-CoreStmtOf CoreExpr (write 121) ∷ [])

-- with HALT in p nothing is printed
abbrev halting : Program
halting = p_then_y (stmts.Halt here)

pub halting-comes : meaning halting [] [] 100 ≡ record { events = []; stands = Ended; input = []; work = 4 }
unfolding stores.opens opens_frame
halting-comes =
    let calls : Calls = calls_at halting 9999 in
    of-body _ _ _ _ _ ∙
    halt-comes halting _ [] 99 (state_with 98 4 (stores.opens [] (empty_store halting)))
    (stopped (does halting calls (roll-CoreStmtOf CoreExpr (stmts.Call p_call))) _ _ _ _
    (row-runs halting calls (stmts.Call p_call) _ _
    (stopped _ _ _ _ _
    (then _ _ _ _ _ _ (gives-runs [] _)
    (routine-halts halting 9998 here (codes "M") (codes "p") [] (leaving_by (stmts.Halt here)) refl 98 2 (empty_store halting) (stores.opens [] (empty_store halting)) refl
    (state_with 98 4 (stores.opens [] (empty_store halting)))
    (stopped (does halting (calls_at halting 9998) (roll-CoreStmtOf CoreExpr (stmts.Halt here))) _ _ _ _
    (row-runs halting (calls_at halting 9998) (stmts.Halt here) _ _ (stops-runs _ _))))))))

-- with RETURN in p what stands behind the call goes on
abbrev returning : Program
returning = p_then_y (stmts.Return here None)

pub returning-comes : meaning returning [] [] 100 ≡ record { events = Out 121 ∷ []; stands = Ended; input = []; work = 15 }
unfolding stores.opens stores.closes stores.says opens_frame closes_frame
returning-comes =
    let calls : Calls = calls_at returning 9999 in
    of-body _ _ _ _ _ ∙
    ended-comes returning _ [] 99 (state_with 97 15 (stores.says (121 ∷ []) (empty_store returning)))
    (then (does returning calls (roll-CoreStmtOf CoreExpr (stmts.Call p_call))) _ _ (state_with 98 4 (empty_store returning)) _ _
    (row-runs returning calls (stmts.Call p_call) _ _
    (then _ _ _ _ _ _
    (then _ _ _ _ _ _ (gives-runs [] _)
    (routine-done returning 9998 here (codes "M") (codes "p") [] (leaving_by (stmts.Return here None)) refl 98 2 (empty_store returning) (stores.opens [] (empty_store returning)) refl
    (ByReturn None) (state_with 98 4 (stores.opens [] (empty_store returning))) (state_with 98 4 (empty_store returning)) None
    (return-returns (block (does returning (calls_at returning 9998)) (leaving_by (stmts.Return here None)).body) None _ _
    (stopped (does returning (calls_at returning 9998) (roll-CoreStmtOf CoreExpr (stmts.Return here None))) _ _ _ _
    (row-runs returning (calls_at returning 9998) (stmts.Return here None) _ _ (then _ _ _ _ _ _ (gives-runs None _) (stops-runs _ _)))))
    (gives-runs None _) refl))
    (gives-runs _ _)))
    (then (does returning calls (roll-CoreStmtOf CoreExpr (write 121))) _ _ _ _ _ (write-runs returning 9998 121 97 4 (empty_store returning) refl) (gives-runs _ _)))

-- ---- LOOP EXIT END; Write('x')

exit-runs : (doing : Doing (Unit {0})) (state last : State) → doing state ≡ Stops phrase.Exiting last → up_to_exit doing state ≡ Done (tt {0}) last
unfolding up_to_exit
exit-runs doing state last is = rw is refl

abbrev exit_loop : CoreStmtOf-F CoreExpr Statement
exit_loop = stmts.Loop here (roll-CoreStmtOf CoreExpr (stmts.Exit here) ∷ [])

abbrev exiting : Program
exiting = program_of [] [] (roll-CoreStmtOf CoreExpr exit_loop ∷ roll-CoreStmtOf CoreExpr (write 120) ∷ [])

pub exiting-comes : meaning exiting [] [] 100 ≡ record { events = Out 120 ∷ []; stands = Ended; input = []; work = 15 }
unfolding stores.opens stores.says
exiting-comes =
    let calls : Calls = calls_at exiting 9999 in
    of-body _ _ _ _ _ ∙
    ended-comes exiting _ [] 99 (state_with 97 15 (stores.says (120 ∷ []) (empty_store exiting)))
    (then (does exiting calls (roll-CoreStmtOf CoreExpr exit_loop)) _ _ (state_with 98 4 (empty_store exiting)) _ _
    (row-runs exiting calls exit_loop _ _
    (exit-runs _ _ _
    (loops-runs _ _ _ _ _
    (turn-stops _ _ _ _ _ _ _ _ (gives-runs true _)
    (turn-runs _ _ 98 _ refl
    (stopped (does exiting calls (roll-CoreStmtOf CoreExpr (stmts.Exit here))) (λ _. nothing) _ _ _
    (row-runs exiting calls (stmts.Exit here) _ _ (stops-runs _ _))))))))
    (then (does exiting calls (roll-CoreStmtOf CoreExpr (write 120))) _ _ _ _ _ (write-runs exiting 9998 120 97 4 (empty_store exiting) refl) (gives-runs _ _)))
